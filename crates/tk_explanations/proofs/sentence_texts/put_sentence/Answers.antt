use Rattle.tk_explanations.proofs.PieceRows.{◌▹◌}
use Rattle.tk_explanations.proofs.sentence_texts.put_sentence.Goals as goal

pub returns-in-Breaks : goal.returns-in-Breaks
returns-in-Breaks g c =
    rw c.in-Breaks.is (c.put_event_phrase.ensures ▹ c.put.ensures ▹ c.put_cause.ensures)

pub returns-in-NeverFinished : goal.returns-in-NeverFinished
returns-in-NeverFinished g c =
    rw c.in-NeverFinished.is (c.put_descriptor_of.ensures ▹ c.put_start.ensures)

pub returns-in-NeverRan : goal.returns-in-NeverRan
returns-in-NeverRan g c =
    rw c.in-NeverRan.is
    (c.put_descriptor_of-in-NeverRan.ensures ▹ c.put-in-NeverRan.ensures
    ▹ c.put_success.ensures)
