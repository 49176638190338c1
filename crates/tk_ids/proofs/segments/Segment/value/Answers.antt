use Rattle.tk_ids.proofs.SegmentLemmas.{boundary}
use Rattle.tk_ids.proofs.segments.Segment.value.Goals as goal

pub range_from-requires : goal.range_from-requires
range_from-requires c = λ _. let parts = c.self.invariant in boundary c.self.inside.text c.as_str.result.now c.self.inside.tag_len c.as_str.ensures parts.1
