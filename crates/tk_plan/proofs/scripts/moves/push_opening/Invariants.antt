use Rattle.std.proofs.Common.{◌≡◌, ◌++◌, drop}
use Rattle.tk_plan.specs.declared.scripts.steps.Act.TheVariants.{Report, File}
use Rattle.tk_plan.specs.Script.{opening, each_act}
use Rattle.tk_plan.proofs.scripts.moves.push_opening.Given as goal

abbrev pub invariant-entries : goal.invariant-entries
invariant-entries l =
    l.fn.moves.items ++ opening l.node l.number
    ≡ l.moves.items ++ (each_act Report l.number l.index (drop l.index l.node.entries) ++ each_act File l.number 0 l.node.files)

abbrev pub invariant-files : goal.invariant-files
invariant-files l = l.fn.moves.items ++ opening l.node l.number ≡ l.moves.items ++ each_act File l.number l.index (drop l.index l.node.files)
