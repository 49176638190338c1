use Rattle.std.proofs.Common.{ap}
use Rattle.tk_events.specs.Fields.{field_text}
use Rattle.tk_streams.proofs.PieceLemmas.{adds_as}
use Rattle.tk_explanations.proofs.PieceRows.{◌▹◌}
use Rattle.tk_explanations.proofs.pieces.put_quoted.Goals as goal

pub returns : goal.returns
returns g c =
    c.put_byte.ensures ▹ adds_as _ _ _ _ (ap field_text c.as_str.ensures) c.put_text.ensures
    ▹ c.put_byte-2.ensures
