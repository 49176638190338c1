use Rattle.std.proofs.Common.{ap, length, arith}
use Rattle.tk_ids.proofs.IdSegmentLemmas.{text_of_id}
use Rattle.tk_ids.proofs.ids.count_segments_of_id.Goals as goal

pub returns : goal.returns
returns c =
    let id = c.in-Ok.ensures in
    let few = id.3 in
    text_of_id c.args.text.now c.in-Ok.segment_count id.0 id.1 id.2 (omega (arith, ap length id.2), omega (arith, few)) id.3
