use Rattle.tk_explanations.proofs.PieceRows.{◌▹◌}
use Rattle.tk_explanations.proofs.explanations.put_span.Goals as goal

pub returns : goal.returns
returns g c =
    c.put_descriptor_at.ensures ▹ c.put.ensures ▹ c.put_number.ensures ▹ c.put-2.ensures
    ▹ c.put_end.ensures ▹ c.put-3.ensures
