use Rattle.std.proofs.Common.{ap, ◌∙◌}
use Rattle.tk_events.specs.Fields.{field_text}
use Rattle.tk_streams.proofs.PieceLemmas.{adds_as}
use Rattle.tk_explanations.proofs.PieceRows.{◌▹◌}
use Rattle.tk_explanations.proofs.sentence_texts.put_cause.Goals as goal

pub returns-in-StaticId : goal.returns-in-StaticId
returns-in-StaticId g c = rw c.in-StaticId.is (c.put.ensures ▹ c.put_name.ensures)

pub returns-in-RegisteredId : goal.returns-in-RegisteredId
returns-in-RegisteredId g c =
    rw c.in-RegisteredId.is
    (c.put-in-RegisteredId.ensures ▹ c.put_number.ensures ▹ c.put-in-RegisteredId-2.ensures
    ▹ c.put_name-in-RegisteredId.ensures)

pub returns-in-UnknownParent : goal.returns-in-UnknownParent
returns-in-UnknownParent g c =
    rw c.in-UnknownParent.is
    (c.put-in-UnknownParent.ensures
    ▹ adds_as _ _ _ _ (ap field_text c.as_str.ensures) c.put_text.ensures)

pub returns-in-ParentStep : goal.returns-in-ParentStep
returns-in-ParentStep g c =
    rw c.in-ParentStep.is (c.put-in-ParentStep.ensures ▹ c.put_event_phrase.ensures)

pub returns-in-ParentIdle : goal.returns-in-ParentIdle
returns-in-ParentIdle g c =
    rw c.in-ParentIdle.is
    (c.put-in-ParentIdle.ensures ▹ c.put_descriptor_of.ensures ▹ c.put-in-ParentIdle-2.ensures)

pub returns-in-OwnStep : goal.returns-in-OwnStep
returns-in-OwnStep g c =
    rw c.in-OwnStep.is (c.put_phrase_at.ensures ▹ c.put-in-OwnStep.ensures)

pub returns-in-Idle : goal.returns-in-Idle
returns-in-Idle g c = rw c.in-Idle.is c.put-in-Idle.ensures

pub returns-in-ChildRan : goal.returns-in-ChildRan
returns-in-ChildRan g c =
    rw c.in-ChildRan.is
    (c.put-in-ChildRan.ensures ▹ c.put_descriptor_of-in-ChildRan.ensures
    ▹ c.put-in-ChildRan-2.ensures ▹ c.put_number-in-ChildRan.ensures
    ▹ c.put-in-ChildRan-3.ensures)

pub returns-in-Rule : goal.returns-in-Rule
returns-in-Rule g c =
    rw c.in-Rule.is
    (c.put-in-Rule.ensures
    ▹ adds_as _ _ _ _ (c.as_bytes.ensures.value ∙ c.rule_word.ensures) c.put-in-Rule-2.ensures)
