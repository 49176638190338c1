-- What a run that failed has recorded, and what `execute_with_record` answers.
use Rattle.std.specs.Prelude.{◌≡◌, ℕ, Bool, true, List, [], ◌++◌, Option, None, Some, IfSome}
use Rattle.std.specs.Prelude.{Result, Ok, Err, IfOk, IfErr, is_some}
use Rattle.tk_events.specs.declared.events.Event.{Event}
use Rattle.tk_events.specs.declared.events.Entry.{Entry}
use Rattle.tk_record.specs.Recorded.{Recorded}
use Rattle.tk_record.specs.Mixing.{IsWorkerOf, of_worker}
use Rattle.tk_queue_session.specs.Closing.{ClosedView, sent_in}
use Rattle.tk_queue_session.specs.Emission.{entries_by}
use Rattle.tk_queue_session.specs.Limits.{capacity_of}
use Rattle.tk_claims.specs.Run.{IsRun}
use Rattle.tk_engine_execute.specs.declared.engines.UnitFault.{UnitFault}
use Rattle.tk_engine_execute.specs.declared.failed_runs.FailedRun.{FailedRun}
use Rattle.tk_engine_execute.specs.declared.run_faults.RunFault.{RunFault}
use Rattle.tk_engine_execute.specs.declared.run_faults.RunFault.TheVariants.{Engine}
use Rattle.tk_engine_execute.specs.Engines.{MayFail}
use Rattle.tk_engine_execute.specs.Faults.{Failures, NoWorkerFailed, IsFirstFault}
use Rattle.tk_engine_execute.specs.Prefix.{IsPrefix}
use Rattle.tk_engine_execute.specs.Results.{RunResults, IsTallied}
use Rattle.tk_engine_execute.specs.Work.{EngineView, Ends, IsWork}

-- the fault of a run that failed
abbrev pub fault_in : {X : Type 0} → Result X FailedRun → Option RunFault
fault_in (Ok r) = None
fault_in (Err failed) = Some failed.fault

-- what each worker sent whose session was closed
abbrev pub sent_until : Option ClosedView → ℕ → List Event
sent_until None w = []
sent_until (Some closed) w = sent_in closed w

-- The record has of each of the workers 1 to n the first of the events that it sent, in its order,
-- and all of them where the record is complete. Of worker 0 it has the events before the units
-- first, and no other where a unit failed.
pub record KeepsWhatWasSent (before : List Event) (n : ℕ) (failed : FailedRun) (r : Recorded)
    : Type 0 where
  pub closed : ClosedView
  pub is_closed : failed.closed ≡ Some closed
  pub prefix : (w : ℕ) → IsWorkerOf n w → IsPrefix (of_worker w r.entries) (sent_in closed w)
  pub complete :
      failed.is_complete ≡ true → (w : ℕ) → IsWorkerOf n w
      → of_worker w r.entries ≡ sent_in closed w
  pub begins : IsPrefix before (of_worker 0 r.entries)
  pub stopped :
      (unit : ℕ) (why : UnitFault) → failed.fault ≡ Engine unit why
      → of_worker 0 r.entries ≡ before

module _ (e : EngineView) (n : ℕ) where
  -- The record is over the engine's table. It has the events before the units, and then a prefix of
  -- what the workers sent and of the events after the units: all that the workers sent where it is
  -- complete, and nothing after that where one has a failure.
  pub record IsRecordSoFar (ends : Ends) (is_complete : Bool) (r : Recorded) : Type 0 where
    pub mid : List Entry
    pub work : IsWork e n ends mid
    pub over : r.table ≡ e.table
    pub begins : IsPrefix (entries_by 0 e.before) r.entries
    pub prefix : IsPrefix r.entries (entries_by 0 e.before ++ mid ++ entries_by 0 e.after)
    pub complete : is_complete ≡ true → IsPrefix (entries_by 0 e.before ++ mid) r.entries
    pub stopped :
        ¬ NoWorkerFailed n ends.failures → IsPrefix r.entries (entries_by 0 e.before ++ mid)

  -- The fault is the first of failures that workers had. Where there is a record, the session was
  -- closed, and what was recorded is what workers with these failures sent.
  pub record IsFailedRun (failed : FailedRun) : Type 0 where
    pub failures : Failures
    pub each : (w : ℕ) → IfSome (failures w) (λ f. MayFail e.units e.fails f.0 f.1)
    pub first : IsFirstFault n failures failed.fault
    pub closed : is_some failed.closed ≡ is_some failed.recorded
    pub recorded :
        IfSome failed.recorded (IsRecordSoFar
        (record { sent = sent_until failed.closed; failures = failures }) failed.is_complete)

  -- The answer is the results of a run of the engine, whose queue holds as many items, or a run
  -- that failed.
  pub record IsRunAnswer (capacity : ℕ) (answer : Result RunResults FailedRun) : Type 0 where
    pub run : IfOk answer (λ r. IsRun e.may e.table e.before e.after e.units n r.recorded)
    pub tally : IfOk answer (λ r. IsTallied n r.closed r.recorded.entries)
    pub of_capacity : IfOk answer (λ r. capacity_of r.closed.session ≡ capacity)
    pub failed : IfErr answer IsFailedRun
