use Rattle.tk_explanations.proofs.PieceRows.{◌▹◌}
use Rattle.tk_explanations.proofs.sentence_texts.put_success.Goals as goal

pub returns-in-Some : goal.returns-in-Some
returns-in-Some g c =
    rw c.in-Some.is
    (c.put.ensures ▹ c.put_descriptor_of.ensures ▹ c.put-in-Some.ensures ▹ c.put_number.ensures)
