-- What was written of a plan's run is the plan's report.
use Rattle.std.proofs.Common.{◌≡◌, ◌≢◌, ◌<◌, ◌≤◌, ◌⊎◌, ℕ, List, Option, Result, Ok, Err, length, refl, ap, sym, ◌∙◌, subst, arith, inl, inr, ⊎_elim}
use Rattle.std.proofs.lemmas.Bool.{cases_lt}
use Rattle.std.specs.Io.KnownBytes.{Appends}
use Rattle.tk_base.specs.declared.limits.TheConstants.{MAX_WORKERS}
use Rattle.std.specs.Prelude.{IfErr, IsErrOf}
use Rattle.tk_record.specs.Recorded.{Recorded}
use Rattle.tk_streams.specs.Stream.{AppendsPrefix}
use Rattle.tk_plan.specs.Planned.{Outline}
use Rattle.tk_plan_reading.specs.PlanAnswers.{plan_in, Answered}
use Rattle.tk_plan_json.specs.declared.faults.PlanFault.{PlanFault}
use Rattle.tk_plan_json.specs.declared.faults.PlanFault.TheVariants as plans
use Rattle.tk_engine_execute.specs.declared.engines.UnitFault.{UnitFault}
use Rattle.tk_engine_execute.specs.declared.run_faults.RunFault.{RunFault}
use Rattle.tk_engine_execute.specs.declared.run_faults.RunFault.TheVariants as runs
use Rattle.tk_record_text.specs.Laws.{WhatIsWrittenIsRead}
use Rattle.tk_record_text.specs.Text.{HasTextIn, IsAnswer}
use Rattle.tk_record_text.specs.declared.reading.TheConstants.{MAX_TEXT}
use Rattle.tk_record_text.specs.declared.versions.Version.TheVariants.{Three}
use Rattle.tk_report_text.specs.Reports.{report_of_record}
use Rattle.tk_run_laws.specs.Reports.{report_of_plan}
use Rattle.tk_plan_runs.specs.declared.plan_runs.PlanRun.{PlanRun}
use Rattle.tk_plan_runs.specs.declared.faults.ReportFault.{ReportFault}
use Rattle.tk_plan_runs.specs.declared.faults.ReportFault.TheVariants.{Plan, Run, Device, Memory}
use Rattle.tk_plan_runs.specs.Answers.{IsNotRun, IsPlanRun, IsPlanText, IsReported, OfRun, IsRunFault, RunIsReadBack}
use Rattle.tk_plan_runs.specs.Answers.{IsRunOfPlan, IsRunRecord, IsRunReport, MayWork, OfPlan, UnitMayFail, plan_text}
use Rattle.tk_plan_runs.specs.Faults.{fault_of_plan, fault_of_run}

-- what is not out of the limits is within them
pub may_work : (workers : ℕ) → (((workers ≡ 0) ⊎ (MAX_WORKERS < workers)) → ⊥) → MayWork workers
may_work workers out = (
  ⊎_elim (λ (some : 0 < workers). some) (λ (none : workers ≤ 0). absurd (out (inl (omega (arith, none))))) (cases_lt 0 workers),
  ⊎_elim (λ (many : MAX_WORKERS < workers). absurd (out (inr many))) (λ (few : workers ≤ MAX_WORKERS). few) (cases_lt MAX_WORKERS workers),
)

-- what is out of the limits is not within them
refused : (workers : ℕ) → (workers ≡ 0) ⊎ (MAX_WORKERS < workers) → ¬ MayWork workers
refused workers (inl none) may = let some = may.0 in omega (arith, none, some)
refused workers (inr many) may = let few = may.1 in omega (arith, many, few)

-- the report of a plan's run was written, or a prefix of it, or nothing
pub reported : (bytes : List ℕ) (workers : ℕ) (old new : Option (List ℕ)) (run : PlanRun) (result : Result (Unit {0}) ReportFault) → IsRunOfPlan bytes workers run
    → IsRunReport run.results.recorded old new result → IsReported bytes workers old new result
reported bytes workers old new run result of h =
    by_result result h where
      text : report_of_record run.results.recorded ≡ plan_text of.report.0
      text = of.report.2

      by_result : (result : Result (Unit {0}) ReportFault) → IsRunReport run.results.recorded old new result → IsReported bytes workers old new result
      by_result (Ok u) h = ((of.report.0, of.report.1, subst (Appends old new) text h), of.may_work)
      by_result (Err (Plan f)) h = absurd h
      by_result (Err (Run f)) h = absurd h
      by_result (Err Device) h = ((of.report.0, of.report.1, subst (AppendsPrefix old new) text h), of.may_work)
      by_result (Err Memory) h = tt

-- the record of a plan's run was written, or a prefix of its text, or nothing
pub recorded : (bytes : List ℕ) (workers : ℕ) (old new : Option (List ℕ)) (run : PlanRun)
    (result : Result (Unit {0}) ReportFault) → IsRunOfPlan bytes workers run
    → HasTextIn Three run.results.recorded → IsRunRecord run.results.recorded old new result
    → IsPlanText (OfRun bytes workers) bytes workers old new result
recorded bytes workers old new run (Ok u) of has h = ((run, of, has, h), of.may_work)
recorded bytes workers old new run (Err (Plan f)) of has h = absurd h
recorded bytes workers old new run (Err (Run f)) of has h = absurd h
recorded bytes workers old new run (Err Device) of has h = ((run, of, has, h), of.may_work)
recorded bytes workers old new run (Err Memory) of has h = tt

-- the record of a run is read back from its text
pub read_back : WhatIsWrittenIsRead → RunIsReadBack
read_back law bytes workers text answer (run, of, has, is_text) within settled is = (
  run,
  of,
  law Three run.results.recorded answer has
      (subst (λ (t : List ℕ). length t ≤ MAX_TEXT) (sym is_text) within) settled
      (subst (λ (t : List ℕ). IsAnswer t answer) (sym is_text) is),
)

-- of a plan that is not run nothing is written
pub not_reported : (OfText : (List ℕ → Type 0) → Type 0) (bytes : List ℕ) (workers : ℕ)
    (old new : Option (List ℕ)) (fault : ReportFault) → IsPlanRun bytes workers (Err fault)
    → IsPlanText OfText bytes workers old new (Err fault)
not_reported OfText bytes workers old new (Plan f) why = why
not_reported OfText bytes workers old new (Run f) why = why
not_reported OfText bytes workers old new Device why = absurd why
not_reported OfText bytes workers old new Memory why = tt

-- a report that is not written is so for a broken target, or for memory
pub untouched : (r : Recorded) (old new : Option (List ℕ)) (result : Result (Unit {0}) ReportFault) (Same : Type 0) → IsRunReport r old new result
    → (IsErrOf result Memory → Same) → IfErr result (λ fault. (fault ≡ Device) ⊎ Same)
untouched r old new (Ok u) Same h same = tt
untouched r old new (Err (Plan f)) Same h same = absurd h
untouched r old new (Err (Run f)) Same h same = absurd h
untouched r old new (Err Device) Same h same = inl refl
untouched r old new (Err Memory) Same h same = inr (same refl)

pub no_device : (bytes : List ℕ) (workers : ℕ) (fault : ReportFault) → IsPlanRun bytes workers (Err fault) → ¬ (IsErrOf {T = Unit {0}} (Err fault) Device)
no_device bytes workers (Plan f) why e = cc
no_device bytes workers (Run f) why e = cc
no_device bytes workers Device why e = absurd why
no_device bytes workers Memory why e = cc

-- the record of a run of the plan has the plan's report
pub has_report : (bytes : List ℕ) (plan : Outline) (r : Recorded) → Answered (plan_in bytes) (Ok plan) → report_of_record r ≡ report_of_plan plan.nodes plan.table → OfPlan bytes (λ text. report_of_record r ≡ text)
has_report bytes plan r (t, is, p) same = (t, is, same ∙ ap (λ (o : Outline). report_of_plan o.nodes o.table) p)

-- bytes that are no plan
pub no_plan : (bytes : List ℕ) (workers : ℕ) (fault : PlanFault) → Answered (plan_in bytes) (Err fault) → IsPlanRun bytes workers (Err (fault_of_plan fault))
no_plan bytes workers plans.Json is = (is, λ e. absurd cc)
no_plan bytes workers (plans.Field path) is = (is, λ e. absurd cc)
no_plan bytes workers (plans.Id why) is = (is, λ e. absurd cc)
no_plan bytes workers (plans.Table why) is = (is, λ e. absurd cc)
no_plan bytes workers plans.TooManyResources is = (is, λ e. absurd cc)
no_plan bytes workers plans.EntryKeyTwice is = (is, λ e. absurd cc)
no_plan bytes workers plans.TooManyEvents is = (is, λ e. absurd cc)
no_plan bytes workers plans.Deep is = (is, λ e. absurd cc)
no_plan bytes workers plans.Memory is = tt

-- a plan that is not run
module _ (bytes : List ℕ) (workers : ℕ) (plan : Outline) (is : Answered (plan_in bytes) (Ok plan)) where
  run : (fault : RunFault) → IsRunFault workers plan fault → IsNotRun bytes workers fault
  run fault why = (is.0, is.1, subst (λ (o : Outline). IsRunFault workers o fault) is.2 why)

  pub not_run : (fault : RunFault) → (fault ≡ runs.Workers → (workers ≡ 0) ⊎ (MAX_WORKERS < workers)) → (fault ≢ runs.Workers → MayWork workers) → fault ≢ runs.Capacity
      → ((unit : ℕ) (why : UnitFault) → fault ≡ runs.Engine unit why → UnitMayFail plan unit why) → IsPlanRun bytes workers (Err (fault_of_run fault))
  not_run runs.Workers out may places failed = run runs.Workers (refused workers (out refl))
  not_run runs.Capacity out may places failed = absurd (places refl)
  not_run (runs.Engine unit why) out may places failed = run (runs.Engine unit why) (may (λ e. absurd cc), failed unit why refl)
  not_run runs.Memory out may places failed = tt
  not_run runs.Threads out may places failed = run runs.Threads (may (λ e. absurd cc))

-- a queue of the default capacity is opened
pub has_places : (◌≡◌ {A = ℕ} 64 0) ⊎ (1024 < 64) → ⊥
has_places (inl none) = omega (arith, none)
has_places (inr many) = omega (arith, many)
