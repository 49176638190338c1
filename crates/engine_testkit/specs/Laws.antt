-- What clauses cite of the record of a run: what holds of each run of an engine of tests, and what
-- an engine by hand has to meet so that its runs keep the lifecycle.
pub use Rattle.tk_query_lifecycle.specs.KeepsLifecycle.{KeepsLifecycle, steps_of}
pub use Rattle.tk_query_lifecycle.specs.Lifecycle.{HasId, IsLifecycle}
pub use Rattle.tk_run_laws.specs.Laws.{IsKept}
pub use Rattle.tk_run_laws.specs.Listening.{Listens}
pub use Rattle.tk_engine_lifecycle.specs.Units.{Frame, KeepsAlone, KeepsAround, UnitsKeepLifecycle}
pub use Rattle.tk_engine_lifecycle.specs.UnderWay.{IsUnderWay, UnitState}
pub use Rattle.tk_engine_unit_events.specs.Endings.{EndsAsItMay, HasOutcome, IsStaticTest}
pub use Rattle.tk_engine_unit_events.specs.Nesting.{BelongsTo, EventsNest}
pub use Rattle.tk_engine_hierarchical.specs.Laws.{HasTurn, HaveTurns, HasOutcomes, FollowsPlan}
pub use Rattle.tk_engine_hierarchical.specs.Laws.{IsRunOf}
pub use Rattle.tk_engine_hierarchical.specs.Laws.{UnitsNest, UnitsRanTrees}
pub use Rattle.tk_engine_hierarchical.specs.Runs.{IsRunBy}
pub use Rattle.tk_engine_hierarchical.specs.TreeRuns.{TestRules, test_rules}
