use Rattle.std.proofs.Common.{ap, ◌∙◌}
use Rattle.tk_record.specs.Record.{entry_of_view}
use Rattle.tk_query_conditions.specs.CondOf.{cond_of}
use Rattle.tk_query_nearest.specs.Members.{lacking}
use Rattle.tk_query_nearest.specs.steps.{appended}
use Rattle.tk_query_nearest.proofs.WritingLemmas.{appended_joined}
use Rattle.tk_query_nearest.proofs.lacking.lacking_text.Goals as goal

pub returns : goal.returns
returns c =
    let members = lacking c.args.«record».now (cond_of c.args.condition.now) (entry_of_view c.args.event.now) in
    c.from.ensures ∙ c.in_ok-push_lacking.ensures ∙ ap (λ text. appended text members) c.new-out.ensures.bytes ∙ appended_joined members
