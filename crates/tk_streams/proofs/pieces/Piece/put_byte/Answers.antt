use Rattle.tk_streams.proofs.PieceLemmas.{adds_both, kept}
use Rattle.tk_streams.proofs.pieces.Piece.put_byte.Goals as goal

pub returns : goal.returns
returns g c = adds_both _ _ _ _ _ c.make_room.ensures.sent (kept _ _ c.make_room.new.self c.push.new.self _ c.push.ensures)
