-- Why an event breaks a rule of the lifecycle.
use Rattle.std.specs.Prelude.{ℕ, List, Option, Some, None, bytes_eq, position, option_map}
use Rattle.std.specs.Option.{option_or}
use Rattle.tk_ids.specs.IdText.{id_text, parent_of}
use Rattle.tk_ids.specs.declared.descriptors.Descriptor.{Descriptor}
use Rattle.tk_record.specs.Recorded.{Recorded}
use Rattle.tk_query_lifecycle.specs.declared.lifecycle_rules.LifecycleRule.{LifecycleRule}
use Rattle.tk_query_lifecycle.specs.declared.lifecycle_rules.LifecycleRule.TheVariants.{IdKnown}
use Rattle.tk_query_lifecycle.specs.declared.lifecycle_rules.LifecycleRule.TheVariants.{
  ParentUnknown,
}
use Rattle.tk_query_lifecycle.specs.declared.lifecycle_rules.LifecycleRule.TheVariants.{
  ParentNotRunning,
}
use Rattle.tk_query_lifecycle.specs.declared.lifecycle_rules.LifecycleRule.TheVariants.{RanAlready}
use Rattle.tk_query_lifecycle.specs.declared.lifecycle_rules.LifecycleRule.TheVariants.{NotRunning}
use Rattle.tk_query_lifecycle.specs.declared.lifecycle_rules.LifecycleRule.TheVariants.{
  ChildRunning,
}
use Rattle.tk_explanations.specs.EventSearches.{begins, first_before, last_before, registers_id}
use Rattle.tk_explanations.specs.EventSearches.{starts_child, steps}
use Rattle.tk_explanations.specs.declared.sentences.EventAt.{EventAt}
use Rattle.tk_explanations.specs.declared.sentences.Cause.{Cause}
use Rattle.tk_explanations.specs.declared.sentences.Cause.TheVariants.{StaticId, RegisteredId}
use Rattle.tk_explanations.specs.declared.sentences.Cause.TheVariants.{UnknownParent, ParentStep}
use Rattle.tk_explanations.specs.declared.sentences.Cause.TheVariants.{ParentIdle, OwnStep, Idle}
use Rattle.tk_explanations.specs.declared.sentences.Cause.TheVariants.{ChildRan, Rule}

-- the least key of a static descriptor whose id has this text
abbrev pub static_key : Recorded → List ℕ → Option ℕ
static_key r text = position (λ d. bytes_eq (id_text d.id) text) r.table

-- the first event before a position that registers an id with this text
abbrev pub registration : Recorded → ℕ → List ℕ → Option EventAt
registration r before text = first_before before (registers_id text) r

-- the key of the descriptor that has an id with this text before a position
abbrev pub key_before : Recorded → ℕ → List ℕ → Option ℕ
key_before r before text =
    option_or (static_key r text) (option_map (λ x. x.key) (registration r before text))

-- the text of the id without its last segment
abbrev pub parent_text : Descriptor → List ℕ
parent_text d = id_text (parent_of d.id)

-- a static descriptor has the id, or an event registered it
abbrev pub known_id : Option ℕ → Option EventAt → Cause
known_id (Some key) _ = StaticId key
known_id None (Some x) = RegisteredId x
known_id None None = Rule IdKnown

-- the parent's last step, if there is one
abbrev pub parent_step : ℕ → Option EventAt → Cause
parent_step key None = ParentIdle key
parent_step key (Some x) = ParentStep x

-- why the parent with this id doesn't run before a position
abbrev pub parent_at_rest : Recorded → ℕ → List ℕ → Option ℕ → Cause
parent_at_rest r before text None = UnknownParent text
parent_at_rest r before text (Some key) = parent_step key (last_before before (steps key) r)

abbrev pub ran_already : Option EventAt → Cause
ran_already None = Rule RanAlready
ran_already (Some x) = OwnStep x

abbrev pub not_running : Option EventAt → Cause
not_running None = Idle
not_running (Some x) = OwnStep x

abbrev pub child_running : Option EventAt → Cause
child_running None = Rule ChildRunning
child_running (Some x) = ChildRan x

-- why an event of the descriptor breaks the rule
abbrev pub cause_of : Recorded → EventAt → Descriptor → LifecycleRule → Cause
cause_of r x d IdKnown =
    known_id (static_key r (id_text d.id)) (registration r x.position (id_text d.id))
cause_of r x d ParentUnknown = UnknownParent (parent_text d)
cause_of r x d ParentNotRunning =
    parent_at_rest r x.position (parent_text d) (key_before r x.position (parent_text d))
cause_of r x d RanAlready = ran_already (first_before x.position (begins x.key) r)
cause_of r x d NotRunning = not_running (last_before x.position (steps x.key) r)
cause_of r x d ChildRunning =
    child_running (first_before x.position (starts_child r x.position (id_text d.id)) r)

-- why an event breaks the rule; its key has a descriptor
abbrev pub cause_at : Recorded → EventAt → LifecycleRule → Option Descriptor → Cause
cause_at r x rule None = Rule rule
cause_at r x rule (Some d) = cause_of r x d rule
