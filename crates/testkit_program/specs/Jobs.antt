-- What doing a job of the program answers, and what was written then.
use Rattle.std.specs.Prelude.{◌≡◌, ◌<◌, ◌≤◌, ◌⊎◌, ℕ, Bool, true, List, Option, Some, None, Ok, Err}
use Rattle.std.specs.Prelude.{IfSome, length}
use Rattle.std.specs.Prelude.{map, string_bytes}
use Rattle.std.specs.Io.KnownBytes.{Appends}
use Rattle.testkit_command_line.specs.declared.jobs.Job.{Job}
use Rattle.testkit_command_line.specs.declared.jobs.Job.TheVariants as jobs
use Rattle.testkit_command_line.specs.declared.jobs.RunOptions.{RunOptions}
use Rattle.testkit_command_line.specs.declared.jobs.RunOutput.{RunOutput}
use Rattle.testkit_command_line.specs.declared.jobs.RunOutput.TheVariants as outputs
use Rattle.testkit_command_line.specs.CommandLines.{IsJobOf, IsNoJob}
use Rattle.testkit_command_line.specs.declared.faults.CommandLineFault.{CommandLineFault}
use Rattle.testkit_program.specs.Statuses.{fault_of_line}
use Rattle.testkit_program.specs.declared.faults.Fault.{Fault}
use Rattle.testkit_program.specs.declared.faults.Fault.TheVariants as faults
use Rattle.tk_record.specs.Recorded.{Recorded}
use Rattle.tk_record_text.specs.Text.{IsAnswerSoFar, text_in}
use Rattle.tk_record_text.specs.declared.reading.ReadFault.{ReadFault}
use Rattle.tk_record_text.specs.declared.reading.ReadFault.TheVariants as reads
use Rattle.tk_record_text.specs.declared.versions.Version.TheVariants.{Three}
use Rattle.testkit_questions.specs.declared.faults.AskFault.{AskFault}
use Rattle.testkit_questions.specs.declared.faults.AskFault.TheVariants as asks
use Rattle.tk_queue_replay.specs.declared.replays.ReplayFault.{ReplayFault}
use Rattle.tk_queue_replay.specs.declared.replays.ReplayFault.TheVariants as replays
use Rattle.tk_streams.specs.declared.transfers.LoadFault.TheVariants as loads
use Rattle.tk_plan_runs.specs.declared.faults.ReportFault.{ReportFault}
use Rattle.tk_plan_runs.specs.declared.faults.ReportFault.TheVariants as reports
use Rattle.tk_record_text.specs.declared.reading.TheConstants.{MAX_TEXT}
use Rattle.tk_streams.specs.Stream.{AppendsPrefix}
use Rattle.tk_queue_replay.specs.ReplayText.{IsWritten, IsPartlyWritten, Plays}
use Rattle.tk_queue_replay.specs.ReplayText.{IsAnswer as IsPlayedAs}
use Rattle.tk_plan_runs.specs.Answers.{OfPlan, OfRun, MayWork, IsNoPlan, IsNotRun}
use Rattle.testkit_questions.specs.Asked.{AddsAnswer, AddsPrefix, IsRefusal}
use Rattle.testkit_questions.specs.Asked as asked

-- what a job may read, and what was written before it and after it, where these bytes are known
pub record Transfer : Type 0 where
  pub input : Option (List ℕ)
  pub old : Option (List ℕ)
  pub new : Option (List ℕ)

abbrev pub transfer : Option (List ℕ) → Option (List ℕ) → Option (List ℕ) → Transfer
transfer input old new = record { input = input; old = old; new = new }

-- the input is within the limit, and `Holds` says so of it
abbrev pub IfLoaded : Transfer → (List ℕ → Type 0) → Type 0
IfLoaded t Holds = IfSome t.input (λ bytes. (length bytes ≤ MAX_TEXT) × Holds bytes)

-- the bytes are a plan, and W holds of what is written of it: the plan's report, or the text of the
-- record of a run by this number of workers
abbrev pub OfOutput : RunOutput → ℕ → List ℕ → (List ℕ → Type 0) → Type 0
OfOutput outputs.Report workers bytes W = OfPlan bytes W
OfOutput outputs.Record workers bytes W = OfRun bytes workers W

abbrev pub OfOptions : RunOptions → List ℕ → (List ℕ → Type 0) → Type 0
OfOptions options = OfOutput options.output options.workers

-- the input is a plan that may be run by the number of workers, and a text of its run was written
abbrev pub IsPlanDone : RunOptions → Transfer → Type 0
IsPlanDone options t =
    IfLoaded t (λ bytes. OfOptions options bytes (Appends t.old t.new)) × MayWork options.workers

-- `Written` holds of the text in version 3 of the record of the lines before the fault of the
-- input, or of all its lines where there is none
abbrev pub IsRecovered : Transfer → Option ReadFault → (List ℕ → Type 0) → Type 0
IsRecovered t fault Written = IfSome t.input (λ bytes.
    (r : Recorded) × IsAnswerSoFar bytes (Ok (r, fault)) × Written (text_in Three r))

-- what doing a job writes, and whether it is a yes
abbrev pub IsDone : Job → Transfer → Bool → Type 0
IsDone (jobs.Ask question) t is_yes =
    IfSome t.input (λ bytes. AddsAnswer (map string_bytes question.now) bytes is_yes t.old t.new)
IsDone jobs.Replay t is_yes =
    (is_yes ≡ true) × IfLoaded t (λ bytes. IsWritten bytes t.old t.new)
IsDone jobs.Recover t is_yes = (is_yes ≡ true) × IsRecovered t None (Appends t.old t.new)
IsDone (jobs.Run options) t is_yes = (is_yes ≡ true) × IsPlanDone options t

-- why a question is not answered; at a broken device a prefix of the answer was written
abbrev pub IsAskFault : List (List ℕ) → Transfer → AskFault → Type 0
IsAskFault question t fault =
    IsRefusal question t.input fault
    × (fault ≡ asks.Device → IfSome t.input (λ bytes. AddsPrefix question bytes t.old t.new))

-- nothing was written, or the input plays and a prefix of the record text was
abbrev pub IsPartlyReplayed : Transfer → Type 0
IsPartlyReplayed t =
    (t.new ≡ t.old) ⊎ IfSome t.input (λ bytes. IsPartlyWritten bytes t.old t.new)

-- why a script is not replayed, and what was written then
abbrev pub IsReplayFault : Transfer → ReplayFault → Type 0
IsReplayFault t replays.Device = IsPartlyReplayed t
IsReplayFault t fault =
    IfSome t.input (λ bytes. IsPlayedAs bytes (Err fault)) × IsPartlyReplayed t

-- Why nothing is recovered of a record text. At a broken device nothing was written, or a prefix.
abbrev pub IsRecoverFault : Transfer → ReadFault → Type 0
IsRecoverFault t reads.Device =
    (t.new ≡ t.old) ⊎ ((fault : Option ReadFault) × IsRecovered t fault (AppendsPrefix t.old t.new))
IsRecoverFault t fault = IfSome t.input (λ bytes. IsAnswerSoFar bytes (Err fault))

-- Why nothing, or a part, is written of a plan that is run so. The number of workers is judged
-- after the plan.
abbrev pub IsReportFault : RunOptions → Transfer → ReportFault → Type 0
IsReportFault options t (reports.Plan fault) = IfLoaded t (λ bytes. IsNoPlan bytes fault)
IsReportFault options t (reports.Run fault) =
    IfLoaded t (λ bytes. IsNotRun bytes options.workers fault)
IsReportFault options t reports.Device =
    IfLoaded t (λ bytes. OfOptions options bytes (AppendsPrefix t.old t.new))
    × MayWork options.workers
IsReportFault options t reports.Memory = Unit {0}

-- the fault is of the words alone
abbrev pub IsOfWords : Fault → Type 0
IsOfWords faults.CommandLine = Unit {0}
IsOfWords (faults.Ask fault) = asked.IsOfWords fault
IsOfWords _ = ⊥

-- The fault may come in writing, after a part of the text went out: a broken target, or memory that
-- a replay was refused. After what was recovered the fault of the input comes. At any other fault
-- nothing was written.
abbrev pub IsInWriting : Fault → Type 0
IsInWriting (faults.Ask asks.Device) = Unit {0}
IsInWriting (faults.Replay replays.Device) = Unit {0}
IsInWriting (faults.Replay replays.Memory) = Unit {0}
IsInWriting (faults.Recover reads.Device) = Unit {0}
IsInWriting (faults.Recovered fault) = Unit {0}
IsInWriting (faults.Report reports.Device) = Unit {0}
IsInWriting _ = ⊥

-- Why a job is not done. A fault is of the job's own kind.
abbrev pub IsRefused : Job → Transfer → Fault → Type 0
IsRefused (jobs.Ask question) t (faults.Ask fault) =
    IsAskFault (map string_bytes question.now) t fault
IsRefused jobs.Replay t (faults.Replay fault) = IsReplayFault t fault
IsRefused jobs.Recover t (faults.Recover fault) = IsRecoverFault t fault
IsRefused jobs.Recover t (faults.Recovered fault) =
    IsRecovered t (Some fault) (Appends t.old t.new)
IsRefused (jobs.Run options) t (faults.Load loads.TooLarge) =
    IfSome t.input (λ bytes. MAX_TEXT < length bytes)
IsRefused (jobs.Run options) t (faults.Load fault) = Unit {0}
IsRefused (jobs.Run options) t (faults.Report fault) = IsReportFault options t fault
IsRefused job t _ = ⊥

-- which of a job's devices are broken
pub record Devices : Type 0 where
  pub source : Bool
  pub target : Bool

abbrev pub devices : Bool → Bool → Devices
devices source target = record { source = source; target = target }

-- Only a broken device is given as one: a question says so of the source in what it reads and of
-- the target in what it writes, a replay of the source, or of the target once the script was
-- played, and a run of the source before and of the target after its plan.
abbrev pub IsBroken : Devices → Transfer → Fault → Type 0
IsBroken d t (faults.Ask (asks.Read reads.Device)) = d.source ≡ true
IsBroken d t (faults.Ask asks.Device) = d.target ≡ true
IsBroken d t (faults.Replay replays.Device) =
    (d.source ≡ true) ⊎ ((d.target ≡ true) × IfSome t.input Plays)
IsBroken d t (faults.Recover reads.Device) = (d.source ≡ true) ⊎ (d.target ≡ true)
IsBroken d t (faults.Load loads.Device) = d.source ≡ true
IsBroken d t (faults.Report reports.Device) = d.target ≡ true
IsBroken d t _ = Unit {0}

-- the words ask for a job that was done
abbrev pub IsPerformed : List (List ℕ) → Transfer → Bool → Type 0
IsPerformed words t is_yes = (job : Job) × IsJobOf words job × IsDone job t is_yes

-- the words ask for no job, or they ask for a job that was refused
abbrev pub IsNotPerformed : List (List ℕ) → Transfer → Fault → Type 0
IsNotPerformed words t fault =
    ((line : CommandLineFault) × IsNoJob words line × (fault ≡ fault_of_line line))
    ⊎ ((job : Job) × IsJobOf words job × IsRefused job t fault)
