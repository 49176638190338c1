use Rattle.std.proofs.Common.{◌++◌, ◌∙◌, ap, arith, length}
use Rattle.tk_plan.specs.declared.scripts.steps.Act.TheVariants.{Report, File}
use Rattle.tk_plan.specs.Script.{each_act}
use Rattle.tk_plan.proofs.TreeMoves.{acts_next, pushed}
use Rattle.tk_plan.proofs.scripts.moves.push_opening.Goals as goal

pub entries-preserved : goal.entries-preserved
entries-preserved c =
    let next = acts_next Report c.args.number c.entries.index c.args.node.now.entries (omega (arith, ap length c.as_slice.ensures, c.entries-test.true)) in
    c.entries.invariant ∙ pushed _ _ _ _ _ c.in_ok-push-2.ensures.items (ap (λ l. l ++ each_act File c.args.number 0 c.args.node.now.files) next)

pub files-preserved : goal.files-preserved
files-preserved c =
    let next = acts_next File c.args.number c.files.index c.args.node.now.files (omega (arith, ap length c.as_slice-2.ensures, c.files-test.true)) in
    c.files.invariant ∙ pushed _ _ _ _ _ c.in_ok-push-3.ensures.items next
