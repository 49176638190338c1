use Rattle.std.proofs.Common.{drop}
use Rattle.tk_engine_hierarchical.specs.TreeRuns.{PlanState, PublishesFiles}
use Rattle.tk_engine_hierarchical.proofs.planned_units.PlannedUnit.publish_files.Given as goal

-- what publishes the rest publishes all, after what was published
abbrev pub invariant-loop-path : goal.invariant-loop-path
invariant-loop-path g l = (new : PlanState)
    → PublishesFiles (drop l.path-index l.files) l.key l.self new
    → PublishesFiles l.files l.key l.fn.self new
