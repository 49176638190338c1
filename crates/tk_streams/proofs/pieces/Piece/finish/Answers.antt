use Rattle.std.proofs.Common.{sym, ◌∙◌}
use Rattle.tk_streams.proofs.PieceLemmas.{broken_prefix}
use Rattle.tk_streams.proofs.pieces.Piece.finish.Goals as goal

pub returns-then-is_broken-clause-err : goal.returns-then-is_broken-clause-err
returns-then-is_broken-clause-err g c =
    broken_prefix _ _ _ _ c.args.self.now c.send.new.self c.send.ensures.sent (sym c.is_broken.ensures ∙ c.if-is_broken.true)
