-- What a plan's run answers is what the job says of it.
use Rattle.std.proofs.Common.{◌≡◌, ◌<◌, ◌≤◌, length, ◌++◌, ◌∙◌, ℕ, Bool, true, List, Option, Some, None, Result, Ok, Err, append-nil, ap, refl, subst, sym}
use Rattle.std.specs.Prelude.{IfSome, IfOk, IfErr, OnErr}
use Rattle.std.specs.Io.KnownBytes.{Appends}
use Rattle.testkit_command_line.specs.declared.jobs.Job.TheVariants as jobs
use Rattle.testkit_command_line.specs.declared.jobs.RunOptions.{RunOptions}
use Rattle.testkit_command_line.specs.declared.jobs.RunOutput.{RunOutput}
use Rattle.testkit_command_line.specs.declared.jobs.RunOutput.TheVariants as outputs
use Rattle.tk_record_text.specs.declared.reading.TheConstants.{MAX_TEXT}
use Rattle.tk_streams.specs.Stream.{AppendsPrefix, ConsumesUpTo, IsLoaded}
use Rattle.tk_streams.specs.declared.transfers.LoadFault.{LoadFault}
use Rattle.tk_streams.specs.declared.transfers.LoadFault.TheVariants as loads
use Rattle.tk_plan_runs.specs.declared.faults.ReportFault.{ReportFault}
use Rattle.tk_plan_runs.specs.declared.faults.ReportFault.TheVariants.{Plan, Run, Device, Memory}
use Rattle.tk_plan_runs.specs.declared.plan_runs.PlanRun.{PlanRun}
use Rattle.tk_plan_runs.specs.Answers.{IsNoPlan, IsNotRun, IsPlanRun, IsPlanText, IsRunOfPlan}
use Rattle.tk_plan_runs.specs.Answers.{IsRunText}
use Rattle.tk_plan_runs.proofs.RunEvents.{not_reported, recorded, reported}
use Rattle.testkit_program.specs.declared.faults.Fault.{Fault}
use Rattle.testkit_program.specs.declared.faults.Fault.TheVariants as faults
use Rattle.testkit_program.specs.Jobs.{Devices, IsBroken, IsDone, IsOfWords, IsRefused}
use Rattle.testkit_program.specs.Jobs.{IsReportFault, OfOptions, OfOutput, Transfer, transfer}
use Rattle.testkit_program.specs.steps.{HasOutput, IsPlanOutcome, IsRunOutcome, output_text}
use Rattle.testkit_program.proofs.Loads.{load_broken, load_refused}

-- all bytes of a source were loaded, where its bytes are known
all_loaded : (old new : Option (List ℕ)) (bytes : List ℕ) → IsLoaded old new bytes → IfSome old (λ all. bytes ≡ all)
all_loaded None new bytes h = tt
all_loaded (Some all) None bytes h = absurd h.0
all_loaded (Some all) (Some rest) bytes h = sym (h.0 ∙ ap (λ (l : List ℕ). bytes ++ l) h.1 ∙ append-nil bytes)

of_input : (input : Option (List ℕ)) (bytes : List ℕ) (P : List ℕ → Type 0) → IfSome input (λ all. bytes ≡ all) → P bytes → IfSome input P
of_input None bytes P is p = tt
of_input (Some all) bytes P is p = subst P is p

-- what was written of a run of the plan is what is to be written of the plan
plan_text : (output : RunOutput) (bytes : List ℕ) (workers : ℕ) (old new : Option (List ℕ))
    (run : PlanRun) (result : Result (Unit {0}) ReportFault) → IsRunOfPlan bytes workers run
    → HasOutput output run.results.recorded → IsRunText (output_text output run.results.recorded) old new result
    → IsPlanText (OfOutput output workers bytes) bytes workers old new result
plan_text outputs.Report bytes workers old new run result of has h =
    reported bytes workers old new run result of h
plan_text outputs.Record bytes workers old new run result of has h =
    recorded bytes workers old new run result of has h

pub plan_outcome : (bytes : List ℕ) (options : RunOptions) (old new : Option (List ℕ))
    (run : Result PlanRun ReportFault) (result : Result Bool Fault)
    → IsPlanRun bytes options.workers run
    → IfErr run (λ fault. result ≡ Err (faults.Report fault))
    → IfOk run (λ run. HasOutput options.output run.results.recorded)
    → IfOk run (λ run. IsRunOutcome (output_text options.output run.results.recorded) old new
    result) → IsPlanOutcome bytes options old new result
plan_outcome bytes options old new (Err fault) result of is has outcome =
    subst (IsPlanOutcome bytes options old new) (sym is)
    (not_reported (OfOptions options bytes) bytes options.workers old new fault of)
plan_outcome bytes options old new (Ok run) (Ok is_yes) of is has outcome =
    (outcome.0, plan_text options.output bytes options.workers old new run (Ok tt) of has outcome.1)
plan_outcome bytes options old new (Ok run) (Err (faults.Report fault)) of is has outcome =
    plan_text options.output bytes options.workers old new run (Err fault) of has outcome
plan_outcome bytes options old new (Ok run) (Err faults.CommandLine) of is has outcome = absurd outcome
plan_outcome bytes options old new (Ok run) (Err (faults.Ask fault)) of is has outcome = absurd outcome
plan_outcome bytes options old new (Ok run) (Err (faults.Replay fault)) of is has outcome = absurd outcome
plan_outcome bytes options old new (Ok run) (Err (faults.Recover fault)) of is has outcome = absurd outcome
plan_outcome bytes options old new (Ok run) (Err (faults.Recovered fault)) of is has outcome = absurd outcome
plan_outcome bytes options old new (Ok run) (Err (faults.Load fault)) of is has outcome = absurd outcome
plan_outcome bytes options old new (Ok run) (Err faults.Memory) of is has outcome = absurd outcome

-- the target is written only after the run, so it breaks only then
pub broken_target : (bytes : List ℕ) (workers : ℕ) (run : Result PlanRun ReportFault) (result : Result Bool Fault) (Broken : Type 0) → IsPlanRun bytes workers run
    → IfErr run (λ fault. result ≡ Err (faults.Report fault)) → IfOk run (λ _. result ≡ Err (faults.Report Device) → Broken) → result ≡ Err (faults.Report Device) → Broken
broken_target bytes workers (Ok run) result Broken of is broken e = broken e
broken_target bytes workers (Err (Plan f)) result Broken of is broken e = let both : ◌≡◌ {A = Result Bool Fault} (Err (faults.Report (Plan f))) (Err (faults.Report Device)) = sym is ∙ e in absurd cc
broken_target bytes workers (Err (Run f)) result Broken of is broken e = let both : ◌≡◌ {A = Result Bool Fault} (Err (faults.Report (Run f))) (Err (faults.Report Device)) = sym is ∙ e in absurd cc
broken_target bytes workers (Err Device) result Broken of is broken e = absurd of
broken_target bytes workers (Err Memory) result Broken of is broken e = let both : ◌≡◌ {A = Result Bool Fault} (Err (faults.Report Memory)) (Err (faults.Report Device)) = sym is ∙ e in absurd cc

-- why the plan of loaded bytes has no text is why the plan of the input has none
report_fault : (options : RunOptions) (input left : Option (List ℕ)) (bytes : List ℕ)
    (old new : Option (List ℕ)) (fault : ReportFault) → IsLoaded input left bytes
    → length bytes ≤ MAX_TEXT
    → IsPlanText (OfOptions options bytes) bytes options.workers old new (Err fault)
    → IsReportFault options (transfer input old new) fault
report_fault options input left bytes old new (Plan f) loaded within h =
    of_input input bytes (λ all. (length all ≤ MAX_TEXT) × IsNoPlan all f)
    (all_loaded input left bytes loaded) (within, h)
report_fault options input left bytes old new (Run f) loaded within h =
    of_input input bytes (λ all. (length all ≤ MAX_TEXT) × IsNotRun all options.workers f)
    (all_loaded input left bytes loaded) (within, h)
report_fault options input left bytes old new Device loaded within h = (
  of_input input bytes
      (λ all. (length all ≤ MAX_TEXT) × OfOptions options all (AppendsPrefix old new))
      (all_loaded input left bytes loaded) (within, h.0),
  h.1,
)
report_fault options input left bytes old new Memory loaded within h = tt

-- A run of the plan that a source has, where the source was loaded so.
module _ {A : Type 0} (items : A → List ℕ) (options : RunOptions) (input left old new : Option (List ℕ)) where
  pub run_done : (loaded : Result A LoadFault) (result : Result Bool Fault) → IfOk loaded (λ bytes. IsLoaded input left (items bytes)) → IfOk loaded (λ bytes. length (items bytes) ≤ MAX_TEXT)
      → IfErr loaded (λ fault. result ≡ Err (faults.Load fault)) → IfOk loaded (λ bytes. IsPlanOutcome (items bytes) options old new result)
      → IfOk result (IsDone (jobs.Run options) (transfer input old new))
  run_done (Err fault) result all within is outcome = subst (λ (r : Result Bool Fault). IfOk r (IsDone (jobs.Run options) (transfer input old new))) (sym is) tt
  run_done (Ok bytes) (Err fault) all within is outcome = tt
  run_done (Ok bytes) (Ok is_yes) all within is outcome =
      (outcome.0, (of_input input (items bytes) (λ text. (length text ≤ MAX_TEXT) × OfOptions options text (Appends old new)) (all_loaded input left (items bytes) all) (within, outcome.1.0), outcome.1.1))

  pub run_refused : (loaded : Result A LoadFault) (result : Result Bool Fault) → IfOk loaded (λ bytes. IsLoaded input left (items bytes)) → IfOk loaded (λ bytes. length (items bytes) ≤ MAX_TEXT)
      → (loaded ≡ Err loads.TooLarge → IfSome input (λ bytes. MAX_TEXT < length bytes))
      → IfErr loaded (λ fault. result ≡ Err (faults.Load fault)) → IfOk loaded (λ bytes. IsPlanOutcome (items bytes) options old new result)
      → IfErr result (IsRefused (jobs.Run options) (transfer input old new))
  run_refused (Err fault) result all within large is outcome =
      subst (λ (r : Result Bool Fault). IfErr r (IsRefused (jobs.Run options) (transfer input old new))) (sym is) (load_refused options (transfer input old new) fault (λ e. large (ap Err e)))
  run_refused (Ok bytes) (Ok is_yes) all within large is outcome = tt
  run_refused (Ok bytes) (Err (faults.Report fault)) all within large is outcome = report_fault options input left (items bytes) old new fault all within outcome
  run_refused (Ok bytes) (Err faults.CommandLine) all within large is outcome = absurd outcome
  run_refused (Ok bytes) (Err (faults.Ask fault)) all within large is outcome = absurd outcome
  run_refused (Ok bytes) (Err (faults.Replay fault)) all within large is outcome = absurd outcome
  run_refused (Ok bytes) (Err (faults.Recover fault)) all within large is outcome = absurd outcome
  run_refused (Ok bytes) (Err (faults.Recovered fault)) all within large is outcome = absurd outcome
  run_refused (Ok bytes) (Err (faults.Load fault)) all within large is outcome = absurd outcome
  run_refused (Ok bytes) (Err faults.Memory) all within large is outcome = absurd outcome

  pub run_broken : (d : Devices) (loaded : Result A LoadFault) (result : Result Bool Fault) → (loaded ≡ Err loads.Device → d.source ≡ true) → (result ≡ Err (faults.Report Device) → d.target ≡ true)
      → IfErr loaded (λ fault. result ≡ Err (faults.Load fault)) → IfOk loaded (λ bytes. IsPlanOutcome (items bytes) options old new result)
      → IfErr result (IsBroken d (transfer input old new))
  run_broken d (Err fault) result source target is outcome =
      subst (λ (r : Result Bool Fault). IfErr r (IsBroken d (transfer input old new))) (sym is) (load_broken d (transfer input old new) fault (λ e. source (ap Err e)))
  run_broken d (Ok bytes) (Ok is_yes) source target is outcome = tt
  run_broken d (Ok bytes) (Err (faults.Report (Plan f))) source target is outcome = tt
  run_broken d (Ok bytes) (Err (faults.Report (Run f))) source target is outcome = tt
  run_broken d (Ok bytes) (Err (faults.Report Device)) source target is outcome = target refl
  run_broken d (Ok bytes) (Err (faults.Report Memory)) source target is outcome = tt
  run_broken d (Ok bytes) (Err faults.CommandLine) source target is outcome = absurd outcome
  run_broken d (Ok bytes) (Err (faults.Ask fault)) source target is outcome = absurd outcome
  run_broken d (Ok bytes) (Err (faults.Replay fault)) source target is outcome = absurd outcome
  run_broken d (Ok bytes) (Err (faults.Recover fault)) source target is outcome = absurd outcome
  run_broken d (Ok bytes) (Err (faults.Recovered fault)) source target is outcome = absurd outcome
  run_broken d (Ok bytes) (Err (faults.Load fault)) source target is outcome = absurd outcome
  run_broken d (Ok bytes) (Err faults.Memory) source target is outcome = absurd outcome

  -- a fault of loading is answered only where loading answered it
  pub run_stops : (loaded : Result A LoadFault) (result : Result Bool Fault) (Stops : Type 0) → OnErr loaded Stops → IfOk loaded (λ bytes. IsPlanOutcome (items bytes) options old new result)
      → (fault : LoadFault) → result ≡ Err (faults.Load fault) → Stops
  run_stops (Err f) result Stops stops outcome fault e = stops
  run_stops (Ok bytes) result Stops stops outcome fault e = absurd (subst (IsPlanOutcome (items bytes) options old new) e outcome)

-- a run of a plan has no fault of the words
pub run_unread : (options : RunOptions) (t : Transfer) (result : Result Bool Fault) (Same : Type 0) → IfErr result (IsRefused (jobs.Run options) t) → IfErr result (λ fault. IsOfWords fault → Same)
run_unread options t (Ok is_yes) Same refused = tt
run_unread options t (Err faults.CommandLine) Same refused = absurd refused
run_unread options t (Err (faults.Ask fault)) Same refused = absurd refused
run_unread options t (Err (faults.Replay fault)) Same refused = absurd refused
run_unread options t (Err (faults.Recover fault)) Same refused = absurd refused
run_unread options t (Err (faults.Recovered fault)) Same refused = absurd refused
run_unread options t (Err (faults.Load fault)) Same refused = λ of_words. absurd of_words
run_unread options t (Err (faults.Report fault)) Same refused = λ of_words. absurd of_words
run_unread options t (Err faults.Memory) Same refused = absurd refused
