use Rattle.std.proofs.Common.{arith}
use Rattle.tk_plan.specs.Trees.{forest}
use Rattle.tk_plan.proofs.TreeMoves.{below-length}
use Rattle.tk_plan.proofs.scripts.counts.count_events.Goals as goal

pub returns-then-count-gt-MAX_EVENTS : goal.returns-then-count-gt-MAX_EVENTS
returns-then-count-gt-MAX_EVENTS c = omega (arith, c.count_all-count.ensures, below-length 0 (forest c.args.nodes.now), c.if-count-gt-MAX_EVENTS.true)

pub returns-else-count-gt-MAX_EVENTS : goal.returns-else-count-gt-MAX_EVENTS
returns-else-count-gt-MAX_EVENTS c = (
  omega (arith, c.count_all-count.ensures, below-length 0 (forest c.args.nodes.now), c.if-count-gt-MAX_EVENTS.false),
  omega (arith, c.if-count-gt-MAX_EVENTS.false),
)
