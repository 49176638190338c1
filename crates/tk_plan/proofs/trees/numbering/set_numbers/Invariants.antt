use Rattle.std.proofs.Common.{◌≡◌, ◌+◌, ◌≤◌, ◌++◌, take, drop}
use Rattle.tk_plan.specs.Numbers.{numbered_from}
use Rattle.tk_plan.proofs.trees.numbering.set_numbers.Given as goal

abbrev pub invariant-loop-index : goal.invariant-loop-index
invariant-loop-index l =
    (numbered_from 0 l.statics l.initial.nodes ≡ take l.index l.nodes ++ numbered_from l.next.of_static l.next.of_dynamic (drop l.index l.nodes))
    × (l.next.of_static ≤ l.index) × (l.next.of_dynamic ≤ l.statics + l.index)
