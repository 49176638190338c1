use Rattle.std.proofs.Common.{drop}
use Rattle.tk_engine_hierarchical.specs.TreeRuns.{PlanState, PublishesEntries}
use Rattle.tk_engine_hierarchical.proofs.planned_units.PlannedUnit.publish_entries.Given as goal

-- what publishes the rest publishes all, after what was published
abbrev pub invariant-loop-pairs : goal.invariant-loop-pairs
invariant-loop-pairs g l = (new : PlanState)
    → PublishesEntries (drop l.pairs-index l.entries) l.key l.self new
    → PublishesEntries l.entries l.key l.fn.self new
