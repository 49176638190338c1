use Rattle.std.proofs.Common.{arith, [], ◌∷◌, map, sym, ◌∙◌}
use Rattle.std.proofs.lemmas.Grind.{common_steps}
use Rattle.std.specs.Prelude.{string_bytes}
use Rattle.std.proofs.lemmas.Bool.Decides.{Decides-eqb}
use Rattle.std.specs.Cmp.Lexicographic.{pointwise_decides}
use Rattle.testkit_command_line.specs.CommandLines.{IsNoAskLine}
use Rattle.testkit_command_line.proofs.Commands.{job_is}
use Rattle.testkit_command_line.proofs.Lines.{by_second}
use Rattle.testkit_command_line.proofs.parsing.job_of.Goals as goal

pub returns-then-eq-clause-job : goal.returns-then-eq-clause-job
returns-then-eq-clause-job c =
    by_second string_bytes c.args.words.now c.command-item.result (97 ∷ 115 ∷ 107 ∷ []) c.in-len2-up.len_at_least c.command-item.is
    (sym c.as_str.ensures.value ∙ (pointwise_decides Decides-eqb _ _).0 (sym c.if-eq.ensures))

pub returns-clause-job : goal.returns-clause-job
returns-clause-job c =
    let words = map string_bytes c.args.words.now in
    let none : IsNoAskLine words = λ question ask. grind (arith, common_steps) in
    job_is words c.other_job.result none c.other_job.ensures.job
