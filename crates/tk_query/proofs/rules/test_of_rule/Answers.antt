use Rattle.std.proofs.Common.{◌&&◌, ap, sym, ◌∙◌}
use Rattle.tk_record.specs.Selections.{passes}
use Rattle.tk_query.specs.steps.Rules.{payload_passes, rule_holds}
use Rattle.tk_query.proofs.RuleLemmas.{some_map}
use Rattle.tk_query.proofs.rules.test_of_rule.Goals as goal

pub returns-in-Column : goal.returns-in-Column
returns-in-Column c = some_map c.of_event.result _ _
    (λ test same r. record { only = λ e fails. ap (λ d. rule_holds d r e) c.in-Column.is ∙ ap (λ d. passes d r e) (sym same) ∙ fails })
    c.of_event.ensures

pub returns-in-Payload : goal.returns-in-Payload
returns-in-Payload c r = record {
  only = λ e fails. ap (λ d. rule_holds d r e) c.in-Payload.is ∙ ap (λ b. b && payload_passes c.in-Payload.field-1 e.event.payload) fails;
}
