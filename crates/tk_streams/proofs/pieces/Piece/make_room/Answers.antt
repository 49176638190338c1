use Rattle.std.proofs.Common.{sym, append-nil}
use Rattle.tk_streams.proofs.PieceLemmas.{written}
use Rattle.tk_streams.proofs.pieces.Piece.make_room.Goals as goal

pub returns-then-self-eq-PIECE-clause-sent : goal.returns-then-self-eq-PIECE-clause-sent
returns-then-self-eq-PIECE-clause-sent g c = written _ _ _ _ c.args.self.now _ _ c.send.new.self c.send.ensures.sent (sym (append-nil c.args.self.now))
