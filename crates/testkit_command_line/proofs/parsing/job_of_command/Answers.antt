use Rattle.std.proofs.Common.{ℕ, List, Some, ap, ap₂, sym, codes, ◌∙◌}
use Rattle.clap.specs.Words.{found_of, rows_of}
use Rattle.clap.proofs.WalkLemmas.{first_value-rows}
use Rattle.testkit_command_line.specs.CommandLines.{job_of_command, output_by, run_by}
use Rattle.testkit_command_line.proofs.parsing.job_of_command.Goals as goal

pub returns-in-run : goal.returns-in-run
returns-in-run c =
    let found = found_of c.args.matches.now in
    c.run_of.ensures
    ∙ ap₂ run_by (first_value-rows found (codes "workers"))
    (ap output_by (first_value-rows found (codes "record")))
    ∙ ap (λ (name : List ℕ). job_of_command (Some (name, rows_of found))) (sym c.in-run.is)
