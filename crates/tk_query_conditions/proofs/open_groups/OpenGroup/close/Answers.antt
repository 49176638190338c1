use Rattle.std.proofs.Common.{sym, ap, ◌∙◌}
use Rattle.tk_query_conditions.specs.Cond.{All, Any, Nothing}
use Rattle.tk_query_conditions.specs.CondOf.{cond_of}
use Rattle.tk_query_conditions.specs.steps.Reader.{conds_from, group_of}
use Rattle.tk_query_conditions.specs.steps.Reading.{closed}
use Rattle.tk_query_conditions.proofs.Members.{cond_of-All, cond_of-Any, conds_more}
use Rattle.tk_query_conditions.proofs.open_groups.OpenGroup.close.Goals as goal

pub returns-in_ok-push-in-All : goal.returns-in_ok-push-in-All
returns-in_ok-push-in-All c =
    cond_of-All c.push.new.self ∙ ap All (ap (conds_from Nothing) c.in_ok-push-in-All.ensures.items ∙ conds_more Nothing c.in-All.members.items c.args.last)
    ∙ ap (λ f. closed (group_of f) (cond_of c.args.last)) (sym c.in-All.is)

pub returns-in_ok-push-in-Any : goal.returns-in_ok-push-in-Any
returns-in_ok-push-in-Any c =
    cond_of-Any c.push-in-Any.new.self ∙ ap Any (ap (conds_from Nothing) c.in_ok-push-in-Any.ensures.items ∙ conds_more Nothing c.in-Any.members.items c.args.last)
    ∙ ap (λ f. closed (group_of f) (cond_of c.args.last)) (sym c.in-Any.is)
