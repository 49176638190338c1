use Rattle.std.proofs.Common.{◌*◌, ◌+◌, ◌≤◌, All, length}
use Rattle.tk_plan.specs.Trees.{IsForest, forest}
use Rattle.tk_engine_hierarchical.specs.steps.{MayStepAs}
use Rattle.tk_engine_hierarchical.specs.TreeRuns.{PlanState, RunsForest}
use Rattle.tk_engine_hierarchical.proofs.hierarchical.+running.Given as goal

abbrev pub decreases-run_all : goal.decreases-run_all
decreases-run_all g l = 3 * length l.nodes.now

abbrev pub decreases-run_started : goal.decreases-run_started
decreases-run_started g l = 3 * length l.below.now + 1

abbrev pub decreases-run_tree : goal.decreases-run_tree
decreases-run_tree g l = 3 * length l.below.now + 2

abbrev pub invariant-run_all-loop-rest : goal.invariant-run_all-loop-rest
invariant-run_all-loop-rest g l = IsForest l.rest × (length l.rest ≤ length l.nodes)
    × All (MayStepAs g.K.UnitRun.unit.frame.table
    (g.T.Tests.may_end l.tests) g.K.UnitRun.unit.may_step) l.rest
    × ((new : PlanState) → RunsForest g.K.UnitRun.unit.frame.table (g.T.Tests.may_run l.tests)
    (forest l.rest) l.unit new
    → RunsForest g.K.UnitRun.unit.frame.table (g.T.Tests.may_run l.tests)
    (forest l.nodes) l.fn.unit new)

abbrev pub decreases-run_all-loop-rest : goal.decreases-run_all-loop-rest
decreases-run_all-loop-rest g l = length l.rest
