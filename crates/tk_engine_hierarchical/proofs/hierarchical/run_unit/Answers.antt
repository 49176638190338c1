use Rattle.std.proofs.Common.{ap, subst, sym, ◌∙◌}
use Rattle.std.specs.Prelude.{is_some}
use Rattle.tk_plan.specs.Trees.{tree_of}
use Rattle.tk_engine_hierarchical.specs.StaticSteps.{FitsPlan}
use Rattle.tk_engine_hierarchical.specs.TreeRuns.{PlanState, test_rules}
use Rattle.tk_engine_hierarchical.proofs.Stepped.{all_found_fit, found_fits, unit_found}
use Rattle.tk_engine_hierarchical.proofs.TreeRuns.{tree_ran}
use Rattle.tk_engine_hierarchical.proofs.hierarchical.run_unit.Goals as goal

pub run_tree-played-requires-clause-may : goal.run_tree-played-requires-clause-may
run_tree-played-requires-clause-may g c =
    let plan = c.plan-plan.result.now in
    let tree = c.unit_tree-tree.result in
    let same = ap (λ p. p.table) c.plan-plan.ensures ∙ ap (λ f. f.table) c.requires.frame in
    let may = subst (λ p. (e : _) → FitsPlan p (g.T.Tests.may_end c.args.tests.now) e
    → g.K.UnitRun.unit.may_step e) (sym c.plan-plan.ensures) c.requires.may in
    let found = unit_found plan.nodes c.args.unit tree.first tree.top.now tree.below.now
    c.table-table.ensures.planned.trees c.table-table.ensures.numbered
    c.unit_tree-tree.ensures.below c.unit_tree-tree.ensures.piece in
    found_fits plan g.K.UnitRun.unit.frame.table (g.T.Tests.may_end c.args.tests.now)
    g.K.UnitRun.unit.may_step same may tree.top.now found.0

pub run_tree-played-requires-clause-may_below : goal.run_tree-played-requires-clause-may_below
run_tree-played-requires-clause-may_below g c =
    let plan = c.plan-plan.result.now in
    let tree = c.unit_tree-tree.result in
    let same = ap (λ p. p.table) c.plan-plan.ensures ∙ ap (λ f. f.table) c.requires.frame in
    let may = subst (λ p. (e : _) → FitsPlan p (g.T.Tests.may_end c.args.tests.now) e
    → g.K.UnitRun.unit.may_step e) (sym c.plan-plan.ensures) c.requires.may in
    let found = unit_found plan.nodes c.args.unit tree.first tree.top.now tree.below.now
    c.table-table.ensures.planned.trees c.table-table.ensures.numbered
    c.unit_tree-tree.ensures.below c.unit_tree-tree.ensures.piece in
    all_found_fit plan g.K.UnitRun.unit.frame.table (g.T.Tests.may_end c.args.tests.now)
    g.K.UnitRun.unit.may_step same may tree.below.now found.1

pub returns-clause-tree : goal.returns-clause-tree
returns-clause-tree g c =
    let plan = c.plan-plan.result.now in
    let tree = c.unit_tree-tree.result in
    let same = ap (λ p. p.table) c.plan-plan.ensures ∙ ap (λ f. f.table) c.requires.frame in
    rw (sym c.plan-plan.ensures) (
    tree_ran c.run_tree-played.result c.unit_result.result plan g.K.UnitRun.unit.frame.table
    (test_rules (is_some c.args.clock) (g.T.Tests.may_end c.args.tests.now)
    (g.T.Tests.may_run c.args.tests.now)) c.args.unit
    (record { tree = tree_of tree.top.now tree.below.now; first = tree.first })
    g.K.UnitRun.unit.start _
    c.begin.result c.run_tree-played.new.unit same c.unit_tree-tree.ensures.piece
    c.begin.ensures (c.end-lease.ensures.sink
    ∙ ap (λ (p : PlanState). p.unit.sink) c.planned.view_is) c.run_tree-played.ensures
    c.unit_result.ensures.fault)
