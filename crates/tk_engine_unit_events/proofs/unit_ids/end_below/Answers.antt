use Rattle.std.proofs.Common.{sym}
use Rattle.tk_engine_unit_events.proofs.Played.{keys_below_more}
use Rattle.tk_engine_unit_events.proofs.unit_ids.end_below.Goals as goal

pub loop-other-preserved : goal.loop-other-preserved
loop-other-preserved c =
    keys_below_more c.args.table.now c.args.id.now c.args.key c.loop-other.other
    c.in-Some.descriptor.now c.loop-other.invariant (sym c.in-Some.ensures)
    (c.is_below.ensures.0 c.if-not-is_below.false)
