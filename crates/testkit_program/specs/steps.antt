-- What private clauses and proofs alone name.
use Rattle.std.specs.Prelude.{◌≡◌, ℕ, Bool, true, List, Option, Result, Ok, Err}
use Rattle.testkit_command_line.specs.declared.jobs.RunOptions.{RunOptions}
use Rattle.testkit_command_line.specs.declared.jobs.RunOutput.{RunOutput}
use Rattle.testkit_program.specs.Jobs.{OfOptions}
use Rattle.testkit_program.specs.declared.faults.Fault.{Fault}
use Rattle.tk_record.specs.Recorded.{Recorded}
use Rattle.tk_record_text.specs.Text.{HasTextIn, text_in}
use Rattle.tk_record_text.specs.declared.versions.Version.TheVariants.{Three}
use Rattle.tk_report_text.specs.Reports.{report_of_record}
use Rattle.tk_plan_runs.specs.Answers.{IsPlanText, IsRunText}
use Rattle.testkit_command_line.specs.declared.jobs.RunOutput.TheVariants as outputs
use Rattle.testkit_program.specs.declared.faults.Fault.TheVariants as faults

-- what is written of a run that has this record
abbrev pub output_text : RunOutput → Recorded → List ℕ
output_text outputs.Report r = report_of_record r
output_text outputs.Record r = text_in Three r

-- the record has what is written of it, as each record has a report
abbrev pub HasOutput : RunOutput → Recorded → Type 0
HasOutput outputs.Report r = Unit {0}
HasOutput outputs.Record r = HasTextIn Three r

-- What writing a text of a run answers: a yes, or why the text was not written. No fault of another
-- kind is answered.
abbrev pub IsRunOutcome :
    List ℕ → Option (List ℕ) → Option (List ℕ) → Result Bool Fault → Type 0
IsRunOutcome written old new (Ok is_yes) = (is_yes ≡ true) × IsRunText written old new (Ok tt)
IsRunOutcome written old new (Err (faults.Report fault)) = IsRunText written old new (Err fault)
IsRunOutcome written old new (Err _) = ⊥

-- What running the plan of loaded bytes and writing a text of the run answers: a yes, or why there
-- is no text. No fault of another kind is answered, so none of loading.
abbrev pub IsPlanOutcome :
    List ℕ → RunOptions → Option (List ℕ) → Option (List ℕ) → Result Bool Fault → Type 0
IsPlanOutcome bytes options old new (Ok is_yes) =
    (is_yes ≡ true) × IsPlanText (OfOptions options bytes) bytes options.workers old new (Ok tt)
IsPlanOutcome bytes options old new (Err (faults.Report fault)) =
    IsPlanText (OfOptions options bytes) bytes options.workers old new (Err fault)
IsPlanOutcome bytes options old new (Err _) = ⊥
