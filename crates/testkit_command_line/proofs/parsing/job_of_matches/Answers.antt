use Rattle.std.proofs.Common.{Some, None, sym, ◌∙◌}
use Rattle.testkit_command_line.proofs.Commands.{found}
use Rattle.testkit_command_line.proofs.parsing.job_of_matches.Goals as goal

pub returns-in-Some-clause-found : goal.returns-in-Some-clause-found
returns-in-Some-clause-found c =
    rw c.in-Ok.is (λ words has none.
    c.job_of_command.ensures ∙ sym (found words c.in-Ok.matches (Some (c.in-Some.name, c.in-Some.matches)) has none c.in-Some.ensures.name c.in-Some.ensures.rows))

pub returns-in-Ok-clause-found : goal.returns-in-Ok-clause-found
returns-in-Ok-clause-found c =
    rw c.in-Ok.is (λ words has none. sym (found words c.in-Ok.matches None has none c.in-None.ensures.name c.in-None.ensures.rows))
