use Rattle.std.proofs.Common.{◌+◌, List, ℕ, sym, subst, arith}
use Rattle.tk_lanes.proofs.Positions.{AreFound, found_more, found_all}
use Rattle.tk_lanes.proofs.flags.Flags.positions.Goals as goal

pub overflow_add-from : goal.overflow_add-from
overflow_add-from c = omega (arith, c.in-Some.ensures.bound.1)

pub positions-preserved : goal.positions-preserved
positions-preserved c =
    subst (λ (is : List ℕ). AreFound is c.args.self.now (c.in-Some.position + 1)) (sym c.in_ok-push.ensures.items)
    (found_more c.positions.list.items c.args.self.now c.positions.from c.in-Some.position c.positions.invariant c.in-Some.ensures.value)

pub returns : goal.returns
returns c = found_all c.positions.list.items c.args.self.now c.positions.from c.positions.invariant c.in_default.ensures.value
