use Rattle.std.proofs.Common.{arith, sym, ◌∙◌}
use Rattle.tk_query.proofs.exclusion.Holders.first_met.Goals as goal

pub returns-then-meet : goal.returns-then-meet
returns-then-meet c = record {
  order = omega arith;
  met = sym c.meet.ensures ∙ c.if-meet.true;
  first = c.loop-first.invariant;
}
