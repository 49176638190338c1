use Rattle.tk_explanations.proofs.Spans.{span_starts}
use Rattle.tk_explanations.proofs.collisions.starting_at_both.Goals as goal

pub returns : goal.returns
returns c = (
  span_starts c.args.events.now c.in_ok-ends.ends.items c.as_slice.result.now c.args.first c.span_at.result c.in_ok-ends.ensures c.requires.first c.as_slice.ensures.value c.span_at.ensures,
  span_starts c.args.events.now c.in_ok-ends.ends.items c.as_slice-2.result.now c.args.second c.span_at-2.result c.in_ok-ends.ensures c.requires.second c.as_slice-2.ensures.value c.span_at-2.ensures,
)
