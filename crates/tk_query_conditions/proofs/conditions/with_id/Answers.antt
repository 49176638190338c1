use Rattle.std.proofs.Common.{ap, ◌∙◌}
use Rattle.tk_query_conditions.specs.Cond.{All, Nothing}
use Rattle.tk_query_conditions.specs.CondOf.{cond_of, both}
use Rattle.tk_query_conditions.specs.steps.Reader.{conds_from}
use Rattle.tk_query_conditions.proofs.Members.{cond_of-All}
use Rattle.tk_query_conditions.proofs.conditions.with_id.Goals as goal

pub returns : goal.returns
returns c =
    cond_of-All c.in_ok-vec.field-0 ∙ ap (λ members. All (conds_from Nothing members)) c.in_ok-vec.ensures.items
    ∙ ap (λ id. both (cond_of c.args.condition) (cond_of id)) c.in_ok-id.ensures
