use Rattle.std.proofs.Common.{◌≡◌, ◌++◌, ◌<◌, drop, length, All}
use Rattle.tk_plan.specs.Numbers.{at_positions, of_kind}
use Rattle.tk_plan.proofs.trees.positions.push_positions.Given as goal

abbrev pub invariant-loop-index : goal.invariant-loop-index
invariant-loop-index l =
    (at_positions l.nodes l.initial.positions.items ++ of_kind l.is_static l.nodes ≡ at_positions l.nodes l.positions.items ++ of_kind l.is_static (drop l.index l.nodes))
    × All (λ i. i < length l.nodes) l.positions.items
