-- What the calls that report answer, and what was written then.
use Rattle.std.specs.Prelude.{◌≡◌, ◌≢◌, ℕ, ◌<◌, ◌≤◌, List, Option, Result, Ok, Err, length}
use Rattle.std.specs.Io.KnownBytes.{Appends}
use Rattle.tk_base.specs.declared.limits.TheConstants.{MAX_WORKERS}
use Rattle.tk_record.specs.Recorded.{Recorded}
use Rattle.tk_streams.specs.Stream.{AppendsPrefix}
use Rattle.tk_query_lifecycle.specs.KeepsLifecycle.{KeepsLifecycle}
use Rattle.tk_plan.specs.Cutting.{units_of}
use Rattle.tk_plan.specs.Planned.{Outline}
use Rattle.tk_plan.specs.Trees.{Tree, forest}
use Rattle.tk_plan_json.specs.declared.faults.PlanFault.{PlanFault}
use Rattle.tk_plan_json.specs.declared.faults.PlanFault.TheVariants as plans
use Rattle.tk_plan_reading.specs.PlanAnswers.{plan_in, outline, Answered}
use Rattle.tk_queue_session.specs.Limits.{capacity_of}
use Rattle.tk_engine_execute.specs.declared.run_faults.RunFault.{RunFault}
use Rattle.tk_engine_execute.specs.declared.run_faults.RunFault.TheVariants as runs
use Rattle.tk_engine_execute.specs.declared.engines.UnitFault.{UnitFault}
use Rattle.tk_engine_execute.specs.Engines.{MayFail}
use Rattle.tk_engine_execute.specs.Results.{IsTallied}
use Rattle.tk_record_text.specs.Laws.{IsSettled}
use Rattle.tk_record_text.specs.Text.{HasTextIn, IsAnswer, text_in}
use Rattle.tk_record_text.specs.declared.reading.ReadFault.{ReadFault}
use Rattle.tk_record_text.specs.declared.reading.TheConstants.{MAX_TEXT}
use Rattle.tk_record_text.specs.declared.versions.Version.TheVariants.{Three}
use Rattle.tk_report_text.specs.Reports.{report_of_record}
use Rattle.tk_run_laws.specs.Laws.{IsKept}
use Rattle.tk_run_laws.specs.Reports.{report_of_plan}
use Rattle.tk_run_laws.specs.Scripts.{IsRunOf}
use Rattle.tk_engine_scripted.specs.Plays.{IsPlayFault}
use Rattle.tk_plan_runs.specs.declared.plan_runs.PlanRun.{PlanRun}
use Rattle.tk_plan_runs.specs.declared.plan_runs.TheConstants.{DEFAULT_CAPACITY}
use Rattle.tk_plan_runs.specs.declared.faults.ReportFault.{ReportFault}
use Rattle.tk_plan_runs.specs.declared.faults.ReportFault.TheVariants.{Plan, Run, Device, Memory}

-- What writing a text of a run answers: it was written, or a prefix of it to a broken target, or
-- memory was refused.
abbrev pub IsRunText :
    List ℕ → Option (List ℕ) → Option (List ℕ) → Result (Unit {0}) ReportFault → Type 0
IsRunText written old new (Ok _) = Appends old new written
IsRunText written old new (Err (Plan f)) = ⊥
IsRunText written old new (Err (Run f)) = ⊥
IsRunText written old new (Err Device) = AppendsPrefix old new written
IsRunText written old new (Err Memory) = Unit {0}

-- what writing the report of a record answers
abbrev pub IsRunReport :
    Recorded → Option (List ℕ) → Option (List ℕ) → Result (Unit {0}) ReportFault → Type 0
IsRunReport r = IsRunText (report_of_record r)

-- what writing the text of a record in version 3 answers
abbrev pub IsRunRecord :
    Recorded → Option (List ℕ) → Option (List ℕ) → Result (Unit {0}) ReportFault → Type 0
IsRunRecord r = IsRunText (text_in Three r)

-- the report of a plan that was read
abbrev pub plan_text : Tree → List ℕ
plan_text t = report_of_plan (outline t).nodes (outline t).table

-- the bytes are a plan, and W holds of its report
abbrev pub OfPlan : List ℕ → (List ℕ → Type 0) → Type 0
OfPlan bytes W = (t : Tree) × (plan_in bytes ≡ Ok t) × W (plan_text t)

-- a number of workers that a run may have
abbrev pub MayWork : ℕ → Type 0
MayWork workers = (0 < workers) × (workers ≤ MAX_WORKERS)

-- A unit of the plan failed so: it is one of the plan's, and the fault is its sink's, or memory was
-- refused.
abbrev pub UnitMayFail : Outline → ℕ → UnitFault → Type 0
UnitMayFail plan = MayFail (length (units_of (forest plan.nodes))) (λ unit. IsPlayFault)

-- Why a plan is not run. The number of workers is refused exactly where it is out of its limits,
-- and the capacity never is. Where memory was refused, that is the report's own fault.
abbrev pub IsRunFault : ℕ → Outline → RunFault → Type 0
IsRunFault workers plan runs.Workers = ¬ MayWork workers
IsRunFault workers plan runs.Capacity = ⊥
IsRunFault workers plan (runs.Engine unit why) = MayWork workers × UnitMayFail plan unit why
IsRunFault workers plan runs.Memory = ⊥
IsRunFault workers plan runs.Threads = MayWork workers

-- the bytes are a plan that is not run by this number of workers, for this fault
abbrev pub IsNotRun : List ℕ → ℕ → RunFault → Type 0
IsNotRun bytes workers fault =
    (t : Tree) × (plan_in bytes ≡ Ok t) × IsRunFault workers (outline t) fault

-- The bytes are no plan, for this fault. Where memory was refused, that is the report's own fault.
abbrev pub IsNoPlan : List ℕ → PlanFault → Type 0
IsNoPlan bytes fault = Answered (plan_in bytes) (Err fault) × (fault ≢ plans.Memory)

-- The bytes are a plan that was run by `workers` workers. The report of the run is the plan's, and
-- the run keeps the lifecycle.
pub record IsRunOfPlan (bytes : List ℕ) (workers : ℕ) (run : PlanRun) : Type 0 where
  pub plan : Answered (plan_in bytes) (Ok run.engine)
  pub may_work : MayWork workers
  pub is_run : IsRunOf run.engine.nodes run.engine.table workers run.results.recorded
  pub tally : IsTallied workers run.results.closed run.results.recorded.entries
  pub of_capacity : capacity_of run.results.closed.session ≡ DEFAULT_CAPACITY
  pub report : OfPlan bytes (λ text. report_of_record run.results.recorded ≡ text)
  pub keeps : KeepsLifecycle run.results.recorded
  pub kept : IsKept run.results.recorded

-- What running a plan by `workers` workers answers. Nothing is written, so no target breaks.
abbrev pub IsPlanRun : List ℕ → ℕ → Result PlanRun ReportFault → Type 0
IsPlanRun bytes workers (Ok run) = IsRunOfPlan bytes workers run
IsPlanRun bytes workers (Err (Plan f)) = IsNoPlan bytes f
IsPlanRun bytes workers (Err (Run f)) = IsNotRun bytes workers f
IsPlanRun bytes workers (Err Device) = ⊥
IsPlanRun bytes workers (Err Memory) = Unit {0}

-- the bytes are a plan, the record of a run by `workers` workers has a text in version 3, and W
-- holds of it
abbrev pub OfRun : List ℕ → ℕ → (List ℕ → Type 0) → Type 0
OfRun bytes workers W =
    (run : PlanRun) × IsRunOfPlan bytes workers run × HasTextIn Three run.results.recorded
    × W (text_in Three run.results.recorded)

-- What reading the text of the record of a run answers, unless a device breaks or memory is
-- refused, is the record of the run.
abbrev pub RunIsReadBack : Type 0
RunIsReadBack = (bytes : List ℕ) (workers : ℕ) (text : List ℕ) (answer : Result Recorded ReadFault)
    → OfRun bytes workers (λ written. written ≡ text) → length text ≤ MAX_TEXT
    → IsSettled answer → IsAnswer text answer
    → (run : PlanRun) × IsRunOfPlan bytes workers run × (answer ≡ Ok run.results.recorded)

-- What running a plan by `workers` workers and writing a text of it answers, and what was written
-- at an Ok and at a broken target: W holds of the text where `OfText` does of W.
abbrev pub IsPlanText :
    ((List ℕ → Type 0) → Type 0) → List ℕ → ℕ → Option (List ℕ) → Option (List ℕ) →
    Result (Unit {0}) ReportFault → Type 0
IsPlanText OfText bytes workers old new (Ok _) = OfText (Appends old new) × MayWork workers
IsPlanText OfText bytes workers old new (Err (Plan f)) = IsNoPlan bytes f
IsPlanText OfText bytes workers old new (Err (Run f)) = IsNotRun bytes workers f
IsPlanText OfText bytes workers old new (Err Device) =
    OfText (AppendsPrefix old new) × MayWork workers
IsPlanText OfText bytes workers old new (Err Memory) = Unit {0}

-- what reporting a plan that is run by `workers` workers answers
abbrev pub IsReported :
    List ℕ → ℕ → Option (List ℕ) → Option (List ℕ) → Result (Unit {0}) ReportFault → Type 0
IsReported bytes workers = IsPlanText (OfPlan bytes) bytes workers
