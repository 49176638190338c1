use Rattle.std.proofs.Common.{◌≤◌, List, length, ap, ◌∙◌, arith}
use Rattle.std.proofs.lemmas.List.{take_all}
use Rattle.tk_query_conditions.specs.declared.conditions.Condition.{Condition}
use Rattle.testkit_questions.specs.Answers.{events_where}
use Rattle.testkit_questions.proofs.AnswerLemmas.{where_none, where_more}
use Rattle.testkit_questions.proofs.answers.events_where.Goals as goal

pub conditions-init : goal.conditions-init
conditions-init c = where_none c.args.selection c.args.«record».now _ c.in_ok-events.ensures

pub conditions-preserved : goal.conditions-preserved
conditions-preserved c =
    where_more c.args.selection c.args.conditions.now c.conditions.condition-index c.condition-item.result c.args.«record».now c.conditions.events c.in_ok-kept.kept
    c.conditions-test.true c.condition-item.is c.conditions.invariant c.in_ok-kept.ensures

pub returns : goal.returns
returns c =
    let past : length c.args.conditions.now ≤ c.conditions.condition-index = omega arith in
    c.conditions.invariant ∙ ap (λ (cs : List Condition). events_where c.args.selection cs c.args.«record».now) (take_all c.conditions.condition-index c.args.conditions.now past)
