-- What the job of a command line answers is what the command line says of it.
use Rattle.std.proofs.Common.{◌≡◌, ℕ, Bool, List, Result, Ok, Err, refl, subst, sym, inl, inr}
use Rattle.std.specs.Prelude.{IfOk, IfErr}
use Rattle.testkit_command_line.specs.declared.jobs.Job.{Job}
use Rattle.testkit_command_line.specs.declared.faults.CommandLineFault.{CommandLineFault}
use Rattle.testkit_command_line.specs.CommandLines.{IsJobOf, IsNoJob}
use Rattle.testkit_program.specs.declared.faults.Fault.{Fault}
use Rattle.testkit_program.specs.Statuses.{fault_of_line}
use Rattle.testkit_program.specs.Jobs.{IsDone, IsNotPerformed, IsPerformed, IsRefused, Transfer}

-- the job that the words ask for was done
pub performed : (words : List (List ℕ)) (t : Transfer) (job : Result Job CommandLineFault) (result : Result Bool Fault) → IfOk job (IsJobOf words)
    → IfErr job (λ fault. result ≡ Err (fault_of_line fault)) → IfOk job (λ job. IfOk result (IsDone job t)) → IfOk result (IsPerformed words t)
performed words t (Err fault) result of is done = subst (λ (r : Result Bool Fault). IfOk r (IsPerformed words t)) (sym is) tt
performed words t (Ok job) (Ok is_yes) of is done = (job, of, done)
performed words t (Ok job) (Err fault) of is done = tt

-- the words ask for no job, or their job was refused
pub not_performed : (words : List (List ℕ)) (t : Transfer) (job : Result Job CommandLineFault) (result : Result Bool Fault) → IfOk job (IsJobOf words) → IfErr job (IsNoJob words)
    → IfErr job (λ fault. result ≡ Err (fault_of_line fault)) → IfOk job (λ job. IfErr result (IsRefused job t)) → IfErr result (IsNotPerformed words t)
not_performed words t (Err line) result of none is refused = subst (λ (r : Result Bool Fault). IfErr r (IsNotPerformed words t)) (sym is) (inl (line, none, refl))
not_performed words t (Ok job) (Ok is_yes) of none is refused = tt
not_performed words t (Ok job) (Err fault) of none is refused = inr (job, of, refused)
