use Rattle.std.proofs.Common.{Some, sym, ap, ◌∙◌}
use Rattle.tk_query_conditions.specs.Cond.{Nothing}
use Rattle.tk_query_conditions.specs.CondOf.{cond_of}
use Rattle.tk_query_conditions.specs.steps.Reader.{conds_from, group_of}
use Rattle.tk_query_conditions.specs.steps.Reading.{OpenAll, OpenAny, joined}
use Rattle.tk_query_conditions.proofs.Members.{conds_more}
use Rattle.tk_query_conditions.proofs.open_groups.OpenGroup.join.Goals as goal

pub returns-in_ok-push-in-All : goal.returns-in_ok-push-in-All
returns-in_ok-push-in-All c =
    ap (λ f. joined (group_of f) (cond_of c.args.member)) c.in-All.is
    ∙ ap (λ cs. Some (OpenAll cs)) (sym (ap (conds_from Nothing) c.in_ok-push-in-All.ensures.items ∙ conds_more Nothing c.in-All.members.items c.args.member))

pub returns-in_ok-push-in-Any : goal.returns-in_ok-push-in-Any
returns-in_ok-push-in-Any c =
    ap (λ f. joined (group_of f) (cond_of c.args.member)) c.in-Any.is
    ∙ ap (λ cs. Some (OpenAny cs)) (sym (ap (conds_from Nothing) c.in_ok-push-in-Any.ensures.items ∙ conds_more Nothing c.in-Any.members.items c.args.member))
