use Rattle.std.proofs.Common.{◌≡◌, ◌++◌, ◌+◌, drop}
use Rattle.tk_plan.specs.Script.{stamped}
use Rattle.tk_plan.proofs.scripts.moves.stamp_all.Given as goal

abbrev pub invariant-loop-index : goal.invariant-loop-index
invariant-loop-index l = stamped l.first l.moves ≡ l.steps.items ++ stamped (l.first + l.index) (drop l.index l.moves)
