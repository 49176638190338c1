-- The sentences about a record that doesn't keep the lifecycle, as text.
use Rattle.std.specs.Prelude.{ℕ, List, [], ◌++◌, codes, Option, Some, None}
use Rattle.std.specs.Fmt.{decimal}
use Rattle.tk_events.specs.declared.kinds.Kind.{Kind}
use Rattle.tk_events.specs.declared.kinds.Kind.TheVariants.{Dynamic, Skipped, Started, Finished}
use Rattle.tk_events.specs.declared.kinds.Kind.TheVariants.{Reporting, File}
use Rattle.tk_events.specs.Fields.{field_text}
use Rattle.tk_record.specs.Entries.{desc}
use Rattle.tk_record.specs.Recorded.{Recorded}
use Rattle.tk_query_lifecycle.specs.LifecycleTexts.{rule_text}
use Rattle.tk_explanations.specs.DescriptorTexts.{descriptor_text, quoted_name}
use Rattle.tk_explanations.specs.declared.sentences.EventAt.{EventAt}
use Rattle.tk_explanations.specs.declared.sentences.Cause.{Cause}
use Rattle.tk_explanations.specs.declared.sentences.Cause.TheVariants.{StaticId, RegisteredId}
use Rattle.tk_explanations.specs.declared.sentences.Cause.TheVariants.{UnknownParent, ParentStep}
use Rattle.tk_explanations.specs.declared.sentences.Cause.TheVariants.{ParentIdle, OwnStep, Idle}
use Rattle.tk_explanations.specs.declared.sentences.Cause.TheVariants.{ChildRan, Rule}
use Rattle.tk_explanations.specs.declared.sentences.Sentence.{Sentence}
use Rattle.tk_explanations.specs.declared.sentences.Sentence.TheVariants.{Breaks, NeverFinished}
use Rattle.tk_explanations.specs.declared.sentences.Sentence.TheVariants.{NeverRan}

-- what an event of the kind did, said of its descriptor
abbrev pub phrase : Kind → List ℕ
phrase Dynamic = codes "was registered"
phrase Skipped = codes "was skipped"
phrase Started = codes "started"
phrase Finished = codes "finished"
phrase Reporting = codes "published entries"
phrase File = codes "published a file"

-- what an event did, and its position
abbrev pub phrase_at : EventAt → List ℕ
phrase_at x = phrase x.kind ++ codes " at " ++ decimal x.position

-- the descriptor of an event, what it did, and the position
abbrev pub event_phrase : Recorded → EventAt → List ℕ
event_phrase r x = descriptor_text (desc r x.key) ++ codes " " ++ phrase_at x

-- why an event breaks a rule
abbrev pub cause_text : Recorded → Cause → List ℕ
cause_text r (StaticId key) =
    codes "a static descriptor has its id, with the name " ++ quoted_name (desc r key)
cause_text r (RegisteredId x) =
    codes "its id was registered at " ++ decimal x.position ++ codes ", with the name "
    ++ quoted_name (desc r x.key)
cause_text r (UnknownParent id) =
    codes "no descriptor before has the id of its parent, " ++ field_text id
cause_text r (ParentStep x) = codes "its parent " ++ event_phrase r x
cause_text r (ParentIdle key) =
    codes "its parent " ++ descriptor_text (desc r key) ++ codes " had not started"
cause_text r (OwnStep x) = phrase_at x ++ codes " already"
cause_text r Idle = codes "had not started"
cause_text r (ChildRan x) =
    codes "its child " ++ descriptor_text (desc r x.key) ++ codes ", which started at "
    ++ decimal x.position ++ codes ", still ran"
cause_text r (Rule rule) = codes "that breaks the rule " ++ rule_text rule

-- what is said of the parent of a key that never ran; of a root nothing
abbrev pub success_text : Recorded → Option EventAt → List ℕ
success_text r None = []
success_text r (Some x) =
    codes ", but its parent " ++ descriptor_text (desc r x.key) ++ codes " succeeded at "
    ++ decimal x.position

-- what is said of the start of an execution that never finished
abbrev pub start_text : Option EventAt → List ℕ
start_text None = codes " started and never finished"
start_text (Some x) = codes " started at " ++ decimal x.position ++ codes " and never finished"

abbrev pub sentence_text : Recorded → Sentence → List ℕ
sentence_text r (Breaks x cause) = event_phrase r x ++ codes ", but " ++ cause_text r cause
sentence_text r (NeverFinished key start) = descriptor_text (desc r key) ++ start_text start
sentence_text r (NeverRan key finish) =
    descriptor_text (desc r key) ++ codes " neither started nor was skipped"
    ++ success_text r finish
