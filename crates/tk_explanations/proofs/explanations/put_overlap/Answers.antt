use Rattle.tk_explanations.proofs.PieceRows.{◌▹◌}
use Rattle.tk_explanations.proofs.explanations.put_overlap.Goals as goal

pub returns : goal.returns
returns g c =
    c.put_span.ensures ▹ c.put.ensures ▹ c.put_span-2.ensures ▹ c.put-2.ensures
