-- The explanation of whether a record keeps the lifecycle.
use Rattle.std.specs.Prelude.{◌≡◌, ℕ, Bool, true, false, List, [], ◌∷◌, ◌++◌, length, Option, Some}
use Rattle.std.specs.Prelude.{None, option_map, slice_get}
use Rattle.tk_ids.specs.declared.descriptors.Descriptor.{Descriptor}
use Rattle.tk_events.specs.declared.kinds.Kind.TheVariants.{Started}
use Rattle.tk_record.specs.Entries.{desc}
use Rattle.tk_record.specs.Recorded.{Recorded}
use Rattle.tk_query_lifecycle.specs.Lifecycle.{IsLifecycle, is_event}
use Rattle.tk_query_lifecycle.specs.LifecycleTexts.{lifecycle_text}
use Rattle.tk_query_lifecycle.specs.declared.lifecycle_rules.Lifecycle.{Lifecycle}
use Rattle.tk_query_lifecycle.specs.declared.lifecycle_rules.Lifecycle.TheVariants as lifecycle
use Rattle.tk_query_lifecycle.specs.declared.lifecycle_rules.LifecycleRule.{LifecycleRule}
use Rattle.tk_explanations.specs.Causes.{cause_at, key_before, parent_text}
use Rattle.tk_explanations.specs.EventSearches.{event_at, first_before, last_before, succeeds}
use Rattle.tk_explanations.specs.Rows.{AsText}
use Rattle.tk_explanations.specs.declared.sentences.EventAt.{EventAt}
use Rattle.tk_explanations.specs.declared.sentences.Cause.{Cause}
use Rattle.tk_explanations.specs.declared.sentences.Cause.TheVariants.{RegisteredId, ParentStep}
use Rattle.tk_explanations.specs.declared.sentences.Cause.TheVariants.{OwnStep, ChildRan}
use Rattle.tk_explanations.specs.declared.sentences.Sentence.TheVariants.{Breaks, NeverFinished}
use Rattle.tk_explanations.specs.declared.sentences.Sentence.TheVariants.{NeverRan}
use Rattle.tk_explanations.specs.declared.rows.Note.TheVariants.{Nothing}
use Rattle.tk_explanations.specs.declared.rows.Row.{Row}
use Rattle.tk_explanations.specs.declared.rows.Row.TheVariants.{Line, Event, Sentence}

-- the event that the cause speaks of
abbrev pub earlier_event : Cause → Option EventAt
earlier_event (RegisteredId x) = Some x
earlier_event (ParentStep x) = Some x
earlier_event (OwnStep x) = Some x
earlier_event (ChildRan x) = Some x
earlier_event _ = None

-- the row of an event, if there is one
abbrev pub event_rows : Option EventAt → List Row
event_rows None = []
event_rows (Some x) = Event x.position Nothing ∷ []

-- that an event breaks a rule, and the rows of the events that show it
abbrev pub cause_rows : EventAt → Cause → List Row
cause_rows x cause =
    Sentence (Breaks x cause) ∷ event_rows (earlier_event cause) ++ Event x.position Nothing ∷ []

-- why the event breaks the rule
abbrev pub broken_rows : Recorded → LifecycleRule → Option EventAt → List Row
broken_rows r rule None = []
broken_rows r rule (Some x) = cause_rows x (cause_at r x rule (desc r x.key))

-- that the key never finished, and the row of its last start
abbrev pub unfinished_rows : ℕ → Option EventAt → List Row
unfinished_rows key start = Sentence (NeverFinished key start) ∷ event_rows start

-- the first successful finish of a key, if there is one
abbrev pub success_of : Recorded → Option ℕ → Option EventAt
success_of r None = None
success_of r (Some key) = first_before (length r.entries) (succeeds key) r

-- the first successful finish of the parent of a descriptor; a root has none
abbrev pub parent_success : Recorded → Option Descriptor → Option EventAt
parent_success r None = None
parent_success r (Some d) = success_of r (key_before r (length r.entries) (parent_text d))

-- that the key never ran, and the row of the finish of its parent, if it has one
abbrev pub never_ran_rows : ℕ → Option EventAt → List Row
never_ran_rows key finish = Sentence (NeverRan key finish) ∷ event_rows finish

-- what is said below the answer
abbrev pub lifecycle_rows : Recorded → Lifecycle → List Row
lifecycle_rows r lifecycle.Kept = []
lifecycle_rows r (lifecycle.Broken p rule) =
    broken_rows r rule (option_map (event_at p) (slice_get r.entries p))
lifecycle_rows r (lifecycle.Unfinished key) =
    unfinished_rows key (last_before (length r.entries) (is_event Started key) r)
lifecycle_rows r (lifecycle.NeverRan key) =
    never_ran_rows key (parent_success r (desc r key))

-- whether the answer is a yes
abbrev pub is_kept : Lifecycle → Bool
is_kept lifecycle.Kept = true
is_kept _ = false

-- the answer, and what is said below it
abbrev pub IsLifecycleExplanation : Recorded → Bool → List Row → Type 0
IsLifecycleExplanation r is_yes rows =
    (answer : Lifecycle) × IsLifecycle r answer × (is_yes ≡ is_kept answer)
    × (rows ≡ Line (lifecycle_text answer) ∷ lifecycle_rows r answer)

-- the explanation as text
abbrev pub ExplainsLifecycle : Recorded → Bool → List ℕ → Type 0
ExplainsLifecycle r = AsText (IsLifecycleExplanation r) r
