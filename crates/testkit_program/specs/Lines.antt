-- The lines of the faults.
use Rattle.std.specs.Prelude.{ℕ, List, ◌∷◌, ◌++◌, [], codes}
use Rattle.std.specs.Fmt.{decimal}
use Rattle.testkit_questions.specs.Characters.{line_feed}
use Rattle.tk_streams.specs.FaultTexts.{load_fault_text}
use Rattle.tk_record_text.specs.FaultTexts.{read_fault_text}
use Rattle.tk_queue_replay.specs.FaultTexts.{replay_fault_text}
use Rattle.tk_plan_runs.specs.FaultTexts.{report_fault_text}
use Rattle.testkit_questions.specs.FaultTexts.{ask_fault_text}
use Rattle.tk_engine_execute.specs.declared.run_faults.RunFault.TheVariants as runs
use Rattle.tk_plan_runs.specs.declared.faults.ReportFault.{ReportFault}
use Rattle.tk_plan_runs.specs.declared.faults.ReportFault.TheVariants as reports
use Rattle.testkit_program.specs.declared.faults.Fault.{Fault}
use Rattle.testkit_program.specs.declared.faults.Fault.TheVariants as faults

-- a unit that failed is named, and no cause
abbrev pub report_text : ReportFault → List ℕ
report_text (reports.Run (runs.Engine unit why)) = codes "unit " ++ decimal unit ++ codes " failed"
report_text fault = report_fault_text fault

abbrev pub fault_text : Fault → List ℕ
fault_text faults.CommandLine = codes "bad command line"
fault_text (faults.Ask fault) = ask_fault_text fault
fault_text (faults.Replay fault) = replay_fault_text fault
fault_text (faults.Recover fault) = read_fault_text fault
fault_text (faults.Recovered fault) = read_fault_text fault
fault_text (faults.Load fault) = load_fault_text fault
fault_text (faults.Report fault) = report_text fault
fault_text faults.Memory = codes "out of memory"

-- what is printed on standard error
abbrev pub fault_line : Fault → List ℕ
fault_line fault = codes "testkit: " ++ fault_text fault ++ line_feed ∷ []
