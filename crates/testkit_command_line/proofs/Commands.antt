-- The commands that the command-line crate reads, and what it makes of words.
use Rattle.std.proofs.Common.{length, arith, subst, ◌^◌, ◌≡◌, ◌⊎◌, ℕ, Bool, true, false, List, [], ◌∷◌, Option, Some, None, Result, Ok, Err, refl, sym, ap, ◌∙◌, inl, inr, ⊎_elim, ap₂, codes}
use Rattle.std.specs.Prelude.{option_map, if◌then◌else◌, IfOk, IfErr}
use Rattle.std.specs.Str.{bytes_eq}
use Rattle.std.specs.Box.{box_value}
use Rattle.std.proofs.lemmas.Bool.{ne_eqb}
use Rattle.std.proofs.lemmas.Option.{same_Some}
use Rattle.clap.specs.Walk.{is_empty}
use Rattle.clap.specs.Words.{App, FailsBy, HasMatchesOf, IsAmong, Kinds, Row, fault_of, first_of, found_of, is_simple, is_simple_and_free, kind_of, rows_of, subcommand_name_of, subcommand_of, subcommand_rows}
use Rattle.clap.specs.declared.error.Error.{Error}
use Rattle.clap.specs.declared.error.kind.ErrorKind.{ErrorKind}
use Rattle.clap.specs.declared.error.kind.ErrorKind.TheVariants as parse
use Rattle.clap.specs.declared.parser.matches.ArgMatches.{ArgMatches}
use Rattle.clap.specs.declared.parser.matches.ArgMatches.TheViews.{out-ArgMatches, out-SubCommand}
use Rattle.clap.proofs.OnLiterals.{clap_on_literals}
use Rattle.std.specs.Borrow.{Bor}
use Rattle.tk_record_text.specs.Reading.{number_of}
use Rattle.testkit_command_line.specs.declared.jobs.Job.{Job}
use Rattle.testkit_command_line.specs.declared.jobs.Job.TheVariants as jobs
use Rattle.testkit_command_line.specs.declared.jobs.RunOutput.{RunOutput}
use Rattle.testkit_command_line.specs.declared.faults.CommandLineFault.{CommandLineFault}
use Rattle.testkit_command_line.specs.declared.faults.CommandLineFault.TheVariants as faults
use Rattle.testkit_command_line.specs.CommandLines.{IsJobOf, IsNoAskLine, commands, job_of_command}
use Rattle.testkit_command_line.specs.CommandLines.{other_job, output_by, run_by, run_by_number}
use Rattle.testkit_command_line.specs.steps.{fault_of_parse}

pub commands_are_simple : is_simple commands ≡ true
unfolding commands clap_on_literals
commands_are_simple = refl

pub commands_are_free : is_simple_and_free commands ≡ true
unfolding commands clap_on_literals
commands_are_free = refl

-- words that the command-line crate takes
pub taken : (words : List (List ℕ)) → fault_of commands words ≡ [] → other_job words ≡ job_of_command (subcommand_of commands words)
unfolding other_job
taken words none = ap (λ (kinds : Kinds). if is_empty kinds then job_of_command (subcommand_of commands words) else Err faults.BadWords) none

some_kind : (kind : ErrorKind) (kinds : Kinds) → IsAmong kind kinds → is_empty kinds ≡ false
some_kind kind [] among = absurd among
some_kind kind (k ∷ kinds) among = ne_eqb (length (k ∷ kinds)) 0 (λ (e : length (k ∷ kinds) ≡ 0). omega arith)

refused_words : (words : List (List ℕ)) → is_empty (fault_of commands words) ≡ false → other_job words ≡ Err faults.BadWords
unfolding other_job
refused_words words some = ap (λ (b : Bool). if b then job_of_command (subcommand_of commands words) else Err faults.BadWords) some

bad_or_memory : (kind : ErrorKind) → (fault_of_parse kind ≡ faults.BadWords) ⊎ (fault_of_parse kind ≡ faults.Memory)
bad_or_memory parse.OutOfMemory = inr refl
bad_or_memory _ = inl refl

abbrev pub refusal : CommandLineFault → Result Job CommandLineFault
refusal fault = Err fault

-- words that it refuses, or memory that was refused
pub refused : (words : List (List ℕ)) (kind : ErrorKind) (fault : CommandLineFault) → fault ≡ fault_of_parse kind → (kind ≡ parse.OutOfMemory) ⊎ IsAmong kind (fault_of commands words)
    → (refusal fault ≡ other_job words) ⊎ (refusal fault ≡ refusal faults.Memory)
refused words kind fault is h = ⊎_elim {C = (refusal fault ≡ other_job words) ⊎ (refusal fault ≡ refusal faults.Memory)}
    (λ (bad : fault_of_parse kind ≡ faults.BadWords). ⊎_elim {C = (refusal fault ≡ other_job words) ⊎ (refusal fault ≡ refusal faults.Memory)}
    (λ (none : kind ≡ parse.OutOfMemory). inr (ap refusal (is ∙ ap fault_of_parse none)))
    (λ (among : IsAmong kind (fault_of commands words)). inl (ap refusal (is ∙ bad) ∙ sym (refused_words words (some_kind kind (fault_of commands words) among))))
    h)
    (λ (memory : fault_of_parse kind ≡ faults.Memory). inr (ap refusal (is ∙ memory)))
    (bad_or_memory kind)

-- two maps of an option are a map to pairs
both_mapped : {A B C D : Type 0} (f : A → C) (g : A → D) (h : B → C) (k : B → D) (o : Option A) (s : Option B) → option_map f o ≡ option_map h s → option_map g o ≡ option_map k s
    → option_map {U = C × D} (λ (b : B). (h b, k b)) s ≡ option_map {U = C × D} (λ (a : A). (f a, g a)) o
both_mapped f g h k None None p q = refl
both_mapped f g h k None (Some b) p q = cc
both_mapped f g h k (Some a) None p q = cc
both_mapped {C = C} {D = D} f g h k (Some a) (Some b) p q =
    ap₂ (λ (c : C) (d : D). Some (let pair : C × D = (c, d) in pair)) (sym (same_Some (f a) (h b) p)) (sym (same_Some (g a) (k b) q))

mapped_twice : {A B C : Type 0} (f : A → B) (g : B → C) (o : Option A) → option_map g (option_map f o) ≡ option_map (λ a. g (f a)) o
mapped_twice f g None = refl
mapped_twice f g (Some a) = refl

-- the words that it takes ask for what the subcommand asks that it finds
pub found : (words : List (List ℕ)) (m : ArgMatches) (o : Option (Bor (List ℕ) × Bor ArgMatches)) → HasMatchesOf commands words m → fault_of commands words ≡ []
    → option_map (λ p. p.0.now) o ≡ subcommand_name_of m → option_map (λ p. rows_of (found_of p.1.now)) o ≡ option_map (λ p. p.1) (subcommand_rows (out-ArgMatches m).subcommand)
    → other_job words ≡ job_of_command (option_map {U = List ℕ × List Row} (λ p. (p.0.now, rows_of (found_of p.1.now))) o)
found words m o matches none name rows =
    taken words none
    ∙ ap job_of_command (sym (matches commands_are_simple).1
    ∙ both_mapped (λ p. p.0.now) (λ p. rows_of (found_of p.1.now)) (λ b. (out-SubCommand (box_value b)).name.now) (λ b. rows_of (found_of (out-SubCommand (box_value b)).matches)) o (out-ArgMatches m).subcommand name
    (rows ∙ mapped_twice {B = List ℕ × List Row} (λ b. ((out-SubCommand (box_value b)).name.now, rows_of (found_of (out-SubCommand (box_value b)).matches))) (λ p. p.1) (out-ArgMatches m).subcommand))

-- what was found in words is their job, and what they were refused for is no job of theirs
pub asked_or_refused : (words : List (List ℕ)) (matches : Result ArgMatches Error) (result : Result Job CommandLineFault) → IfOk matches (HasMatchesOf commands words)
    → FailsBy (fault_of commands words) matches → IfErr matches (λ error. result ≡ Err (fault_of_parse (kind_of error)))
    → IfOk matches (λ m. (asked : List (List ℕ)) → HasMatchesOf commands asked m → fault_of commands asked ≡ [] → result ≡ other_job asked)
    → (result ≡ other_job words) ⊎ (result ≡ refusal faults.Memory)
asked_or_refused words (Ok m) result has kinds bad found = inl (found words has kinds)
asked_or_refused words (Err error) result has kinds bad found =
    subst (λ (r : Result Job CommandLineFault). (r ≡ other_job words) ⊎ (r ≡ refusal faults.Memory)) (sym bad) (refused words (kind_of error) (fault_of_parse (kind_of error)) refl kinds)

-- a command that is the one above fails as it does
pub fails_by : (words : List (List ℕ)) (a : App) → a ≡ commands → {M : Type 0} (matches : Result M Error) → (is_simple_and_free a ≡ true → FailsBy (fault_of a words) matches) → FailsBy (fault_of commands words) matches
fails_by words a is matches kinds = subst (λ (b : App). is_simple_and_free b ≡ true → FailsBy (fault_of b words) matches) is kinds commands_are_free

-- no question
abbrev IsOther : Job → Type 0
IsOther (jobs.Ask question) = ⊥
IsOther jobs.Replay = Unit {0}
IsOther jobs.Recover = Unit {0}
IsOther (jobs.Run options) = Unit {0}

other_by_number : (n : Option ℕ) (o : RunOutput) (job : Job) → run_by_number n o ≡ Ok job
    → IsOther job
other_by_number n o jobs.Replay e = tt
other_by_number n o jobs.Recover e = tt
other_by_number n o (jobs.Run options) e = tt
other_by_number None o (jobs.Ask question) e = cc
other_by_number (Some n) o (jobs.Ask question) e = cc

other_by_run : (value : Option (List ℕ)) (o : RunOutput) (job : Job) → run_by value o ≡ Ok job
    → IsOther job
other_by_run value o jobs.Replay e = tt
other_by_run value o jobs.Recover e = tt
other_by_run value o (jobs.Run options) e = tt
other_by_run None o (jobs.Ask question) e = cc
other_by_run (Some text) o (jobs.Ask question) e =
    other_by_number (number_of (2 ^ 8) text) o (jobs.Ask question) e

other_by_name : (is_replay is_recover is_run : Bool) (value : Option (List ℕ)) (o : RunOutput) (job : Job)
    → (if is_replay then Ok jobs.Replay else if is_recover then Ok jobs.Recover else if is_run then run_by value o
    else Err faults.BadWords) ≡ Ok job → IsOther job
other_by_name is_replay is_recover is_run value o jobs.Replay e = tt
other_by_name is_replay is_recover is_run value o jobs.Recover e = tt
other_by_name is_replay is_recover is_run value o (jobs.Run options) e = tt
other_by_name true is_recover is_run value o (jobs.Ask question) e = cc
other_by_name false true is_run value o (jobs.Ask question) e = cc
other_by_name false false true value o (jobs.Ask question) e =
    other_by_run value o (jobs.Ask question) e
other_by_name false false false value o (jobs.Ask question) e = cc

other_by_words : (is_taken : Bool) (o : Option (List ℕ × List Row)) (job : Job) → (if is_taken then job_of_command o else Err faults.BadWords) ≡ Ok job → IsOther job
other_by_words is_taken o jobs.Replay e = tt
other_by_words is_taken o jobs.Recover e = tt
other_by_words is_taken o (jobs.Run options) e = tt
other_by_words true None (jobs.Ask question) e = cc
other_by_words true (Some command) (jobs.Ask question) e =
    other_by_name (bytes_eq command.0 (codes "replay")) (bytes_eq command.0 (codes "recover")) (bytes_eq command.0 (codes "run")) (first_of (codes "workers") command.1)
    (output_by (first_of (codes "record") command.1)) (jobs.Ask question) e
other_by_words false o (jobs.Ask question) e = cc

is_other : (words : List (List ℕ)) (job : Job) → other_job words ≡ Ok job → IsOther job
unfolding other_job
is_other words job e = other_by_words (is_empty (fault_of commands words)) (subcommand_of commands words) job e

-- the job of words that ask no question
pub job_is : (words : List (List ℕ)) (result : Result Job CommandLineFault) → IsNoAskLine words → (result ≡ other_job words) ⊎ (result ≡ refusal faults.Memory) → IfOk result (IsJobOf words)
job_is words (Ok (jobs.Ask question)) none (inl is) = absurd (is_other words (jobs.Ask question) (sym is))
job_is words (Ok jobs.Replay) none (inl is) = (none, sym is)
job_is words (Ok jobs.Recover) none (inl is) = (none, sym is)
job_is words (Ok (jobs.Run options)) none (inl is) = (none, sym is)
job_is words (Ok job) none (inr is) = cc
job_is words (Err fault) none h = tt
