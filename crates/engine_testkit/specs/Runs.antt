-- What clauses cite of engines, units and their runs.
pub use Rattle.tk_engine_execute.specs.FailedRuns.{IsFailedRun, IsRunAnswer, fault_in}
pub use Rattle.tk_engine_execute.specs.FailedRuns.{KeepsWhatWasSent}
pub use Rattle.tk_engine_execute.specs.Results.{IsTallied}
pub use Rattle.tk_engine_execute.specs.Work.{engine_view}
pub use Rattle.tk_claims.specs.Run.{IsRun}
pub use Rattle.tk_engine_unit_events.specs.Refusals.{IsChildCause, IsInnermostCause, IsPublishCause}
pub use Rattle.tk_engine_unit_events.specs.Refusals.{child_start}
pub use Rattle.tk_engine_unit_events.specs.Shapes.{count_units}
pub use Rattle.tk_engine_unit_events.specs.Taken.{IsFaultOfTaken, IsTaken, RefusesTaken}
pub use Rattle.tk_queue_session.specs.Limits.{capacity_of}
