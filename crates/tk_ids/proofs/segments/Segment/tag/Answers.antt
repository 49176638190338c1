use Rattle.tk_ids.proofs.SegmentLemmas.{boundary}
use Rattle.tk_ids.proofs.segments.Segment.tag.Goals as goal

pub range-requires-clause-end_boundary : goal.range-requires-clause-end_boundary
range-requires-clause-end_boundary c = let parts = c.self.invariant in boundary c.self.inside.text c.as_str.result.now c.self.inside.tag_len c.as_str.ensures parts.1
