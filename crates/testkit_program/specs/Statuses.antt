-- The exit statuses.
use Rattle.std.specs.Prelude.{ℕ, Bool, true, false, Result, Ok, Err}
use Rattle.testkit_command_line.specs.declared.faults.CommandLineFault.{CommandLineFault}
use Rattle.testkit_command_line.specs.declared.faults.CommandLineFault.TheVariants as lines
use Rattle.testkit_program.specs.declared.faults.Fault.{Fault}
use Rattle.testkit_program.specs.declared.faults.Fault.TheVariants as faults
use Rattle.tk_record_text.specs.declared.reading.ReadFault.TheVariants as reads
use Rattle.tk_query_conditions.specs.declared.faults.CondFault.TheVariants as conditions
use Rattle.testkit_questions.specs.declared.faults.AskFault.TheVariants as asks
use Rattle.tk_queue_replay.specs.declared.replays.ReplayFault.TheVariants as replays
use Rattle.tk_streams.specs.declared.transfers.LoadFault.TheVariants as loads
use Rattle.tk_plan_json.specs.declared.faults.PlanFault.TheVariants as plans
use Rattle.tk_engine_execute.specs.declared.run_faults.RunFault.TheVariants as runs
use Rattle.tk_plan_runs.specs.declared.faults.ReportFault.TheVariants as reports

-- what a fault of the command line is in the program
abbrev pub fault_of_line : CommandLineFault → Fault
fault_of_line lines.BadWords = faults.CommandLine
fault_of_line lines.Memory = faults.Memory

-- the exit status of a fault: 3 where a device, memory, a thread or a unit failed, 2 where the
-- words or the input are bad, 1 where what stands before the fault was recovered
abbrev pub status_of : Fault → ℕ
status_of faults.Memory = 3
status_of (faults.Ask asks.Device) = 3
status_of (faults.Ask asks.Memory) = 3
status_of (faults.Ask (asks.Condition word conditions.Memory)) = 3
status_of (faults.Ask (asks.Read reads.Device)) = 3
status_of (faults.Ask (asks.Read reads.Memory)) = 3
status_of (faults.Replay replays.Device) = 3
status_of (faults.Replay replays.Memory) = 3
status_of (faults.Recover reads.Device) = 3
status_of (faults.Recover reads.Memory) = 3
status_of (faults.Recovered fault) = 1
status_of (faults.Load loads.Device) = 3
status_of (faults.Load loads.Memory) = 3
status_of (faults.Report reports.Device) = 3
status_of (faults.Report reports.Memory) = 3
status_of (faults.Report (reports.Plan plans.Memory)) = 3
status_of (faults.Report (reports.Run runs.Memory)) = 3
status_of (faults.Report (reports.Run runs.Threads)) = 3
status_of (faults.Report (reports.Run (runs.Engine unit why))) = 3
status_of _ = 2

-- the exit status of what a job answered: 0 at a yes, 1 at a no
abbrev pub status_of_outcome : Result Bool Fault → ℕ
status_of_outcome (Ok true) = 0
status_of_outcome (Ok false) = 1
status_of_outcome (Err fault) = status_of fault

-- whether the words name no command, or no question
abbrev pub wants_usage : Fault → Bool
wants_usage faults.CommandLine = true
wants_usage (faults.Ask asks.Question) = true
wants_usage _ = false
