use Rattle.tk_streams.proofs.PieceLemmas.{kept, taken, not_taken, sent_then_kept, sent_then_written}
use Rattle.tk_streams.proofs.pieces.Piece.put.Goals as goal

pub returns-then-keep : goal.returns-then-keep
returns-then-keep g c =
    kept _ _ c.args.self.now c.keep.new.self c.args.bytes.now (taken c.keep.result _ _ _ c.if-keep.true c.keep.ensures)

pub returns-then-keep-2 : goal.returns-then-keep-2
returns-then-keep-2 g c =
    sent_then_kept _ _ _ _ c.args.self.now c.keep.new.self c.send.new.self c.keep-2.new.self c.args.bytes.now
    (not_taken c.keep.result _ _ _ c.if-keep.false c.keep.ensures) c.send.ensures.sent (taken c.keep-2.result _ _ _ c.if-keep-2.true c.keep-2.ensures)

pub returns : goal.returns
returns g c =
    sent_then_written _ _ _ _ _ _ c.args.self.now c.keep.new.self c.send.new.self c.keep-2.new.self c.args.bytes.now
    (not_taken c.keep.result _ _ _ c.if-keep.false c.keep.ensures) c.send.ensures.sent c.send.ensures.empty (not_taken c.keep-2.result _ _ _ c.if-keep-2.false c.keep-2.ensures) c.write_on.ensures
