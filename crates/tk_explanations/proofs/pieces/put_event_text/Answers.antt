use Rattle.tk_explanations.proofs.PieceRows.{◌▹◌}
use Rattle.tk_explanations.proofs.pieces.put_event_text.Goals as goal

pub returns : goal.returns
returns g c = c.put_event.ensures ▹ c.put.ensures ▹ c.put_descriptor_of.ensures
