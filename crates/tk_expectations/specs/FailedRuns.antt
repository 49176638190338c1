-- What a failure shows of a run that failed.
use Rattle.std.specs.Prelude.{◌≡◌, ℕ, ◌-◌, Bool, true, false, nat_le, if◌then◌else◌}
use Rattle.std.specs.Prelude.{List, [], ◌∷◌, ◌++◌, codes, length, drop}
use Rattle.std.specs.Prelude.{Option, None, Some, string_bytes}
use Rattle.std.specs.Fmt.{decimal}
use Rattle.tk_record.specs.Recorded.{Recorded}
use Rattle.tk_record.specs.Selections.{Selected, positioned}
use Rattle.tk_engine_execute.specs.FaultTexts.{run_fault_text}
use Rattle.tk_engine_execute.specs.declared.failed_runs.FailedRun.{FailedRun}
use Rattle.testkit_questions.specs.Characters.{line_feed}
use Rattle.tk_expectations.specs.Lists.{shown_list}
use Rattle.tk_expectations.specs.declared.lists.TheConstants.{MAX_SHOWN_EVENTS}
use Rattle.tk_expectations.specs.declared.failures.Failure.{Failure}
use Rattle.tk_expectations.specs.declared.failures.Failure.TheVariants as failures

-- the last events of a record, as many as are shown
abbrev pub last_of : Recorded → Selected
last_of r = record {
  recorded = r;
  kept = drop (length r.entries - MAX_SHOWN_EVENTS) (positioned r.entries);
}

-- how many events there are, and how many of them are shown
abbrev pub heading : ℕ → List ℕ
heading count =
    if nat_le count MAX_SHOWN_EVENTS then codes "all " ++ decimal count ++ codes " events:"
    else codes "the last " ++ decimal MAX_SHOWN_EVENTS ++ codes " of " ++ decimal count
    ++ codes " events:"

-- what is said below the events of a record that is not complete
abbrev pub cut_off : Bool → List ℕ
cut_off true = []
cut_off false =
    codes "memory was refused for an event: nothing after these was recorded" ++ line_feed ∷ []

-- what is shown of a record, where there is one
abbrev pub recorded_text : Option Recorded → Bool → List ℕ
recorded_text None is_complete = []
recorded_text (Some r) is_complete =
    heading (length r.entries) ++ line_feed ∷ shown_list (last_of r) ++ cut_off is_complete

-- the run's fault, and below it what was recorded
abbrev pub failed_run_text : FailedRun → List ℕ
failed_run_text failed =
    run_fault_text failed.fault ++ line_feed ∷ recorded_text failed.recorded failed.is_complete

-- the failure shows the run, or it is a fault
abbrev pub IsOfRun : FailedRun → Failure → Type 0
IsOfRun failed (failures.Run text) = string_bytes text ≡ failed_run_text failed
IsOfRun failed (failures.Fault text) = Unit {0}
IsOfRun failed _ = ⊥
