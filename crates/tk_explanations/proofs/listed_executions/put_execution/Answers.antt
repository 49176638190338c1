use Rattle.std.proofs.Common.{◌∙◌}
use Rattle.tk_streams.proofs.PieceLemmas.{adds_as}
use Rattle.tk_explanations.proofs.PieceRows.{◌▹◌}
use Rattle.tk_explanations.proofs.listed_executions.put_execution.Goals as goal

pub returns : goal.returns
returns g c =
    adds_as _ _ _ _ (c.as_bytes.ensures ∙ c.head_of.ensures) c.put.ensures
    ▹ c.put_id.ensures ▹ c.put_byte.ensures
