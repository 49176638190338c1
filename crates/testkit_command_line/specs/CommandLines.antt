-- What the words of a command line ask for.
use Rattle.std.specs.Prelude.{◌≡◌, ℕ, ◌^◌, List, ◌∷◌, codes, map, string_bytes, Option, Some, None}
use Rattle.std.specs.Prelude.{Result, Ok, Err, true, if◌then◌else◌}
use Rattle.std.specs.Str.{bytes_eq}
use Rattle.clap.specs.Simple.{on_top}
use Rattle.clap.specs.Walk.{is_empty}
use Rattle.clap.specs.Words.{App, Row, Rule, fault_of, first_of, new_app, new_rule, subcommand_of}
use Rattle.clap.specs.Words.{with_rule, with_subcommand}
use Rattle.clap.specs.declared.builder.action.ArgAction.TheVariants.{Set, SetTrue}
use Rattle.tk_record_text.specs.Reading.{number_of}
use Rattle.testkit_command_line.specs.declared.jobs.Job.{Job}
use Rattle.testkit_command_line.specs.declared.jobs.Job.TheVariants as jobs
use Rattle.testkit_command_line.specs.declared.jobs.RunOutput.{RunOutput}
use Rattle.testkit_command_line.specs.declared.jobs.RunOutput.TheVariants as outputs
use Rattle.testkit_command_line.specs.declared.faults.CommandLineFault.{CommandLineFault}
use Rattle.testkit_command_line.specs.declared.faults.CommandLineFault.TheVariants as faults

-- the program's name, the word ask, and the words of a question
abbrev pub IsAskLine : List (List ℕ) → List (List ℕ) → Type 0
IsAskLine words question = (name : List ℕ) × (words ≡ name ∷ codes "ask" ∷ question)

-- the words are the line of no question
abbrev pub IsNoAskLine : List (List ℕ) → Type 0
IsNoAskLine words = (question : List (List ℕ)) → ¬ IsAskLine words question

-- What is written of a run whose flag has this value: its record at `true`, which a flag has that
-- is given, else its report.
abbrev pub output_by : Option (List ℕ) → RunOutput
output_by None = outputs.Report
output_by (Some text) =
    if bytes_eq text (codes "true") then outputs.Record else outputs.Report

-- a run by as many workers as the number says
abbrev pub run_by_number : Option ℕ → RunOutput → Result Job CommandLineFault
run_by_number None output = Err faults.BadWords
run_by_number (Some workers) output =
    Ok (jobs.Run (record { workers = workers; output = output }))

-- A run whose option has this value: by one worker where it was left out, else by as many as the
-- number below 2^8 says.
abbrev pub run_by : Option (List ℕ) → RunOutput → Result Job CommandLineFault
run_by None output = Ok (jobs.Run (record { workers = 1; output = output }))
run_by (Some text) output = run_by_number (number_of (2 ^ 8) text) output

-- the option `--workers N`
abbrev pub workers_option : Rule
workers_option =
    record (new_rule (codes "workers")) { long = Some (codes "workers"); action = Some Set }

-- the flag `--record`
abbrev pub record_flag : Rule
record_flag =
    record (new_rule (codes "record")) { long = Some (codes "record"); action = Some SetTrue }

-- the command `run`
abbrev pub run_command : App
run_command = with_rule (with_rule (new_app (codes "run")) workers_option) record_flag

-- the commands that the command-line crate reads, one of which is wanted: `run`, `replay` and
-- `recover`
unfoldable pub commands : App
commands =
    with_subcommand (with_subcommand (with_subcommand
    (on_top (λ s. record s { subcommand_required = true }) (new_app (codes "testkit")))
    run_command.top) (new_app (codes "replay")).top) (new_app (codes "recover")).top

-- what a command of this name asks for, with these values of options
abbrev pub job_of_command : Option (List ℕ × List Row) → Result Job CommandLineFault
job_of_command None = Err faults.BadWords
job_of_command (Some command) =
    if bytes_eq command.0 (codes "replay") then Ok jobs.Replay
    else if bytes_eq command.0 (codes "recover") then Ok jobs.Recover
    else if bytes_eq command.0 (codes "run")
    then run_by (first_of (codes "workers") command.1)
    (output_by (first_of (codes "record") command.1))
    else Err faults.BadWords

-- What words ask for that are no question: what the command asks for that the command-line crate
-- finds in them, and nothing where it refuses them.
unfoldable pub other_job : List (List ℕ) → Result Job CommandLineFault
other_job words =
    if is_empty (fault_of commands words) then job_of_command (subcommand_of commands words)
    else Err faults.BadWords

-- what follows ask is the question; every other job has no such line
abbrev pub IsJobOf : List (List ℕ) → Job → Type 0
IsJobOf words (jobs.Ask question) = IsAskLine words (map string_bytes question.now)
IsJobOf words job = IsNoAskLine words × (other_job words ≡ Ok job)

-- the words are bad, or memory was refused
abbrev pub IsNoJob : List (List ℕ) → CommandLineFault → Type 0
IsNoJob words faults.Memory = IsNoAskLine words
IsNoJob words faults.BadWords = IsNoAskLine words × (other_job words ≡ Err faults.BadWords)
