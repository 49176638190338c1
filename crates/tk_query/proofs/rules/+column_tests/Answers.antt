use Rattle.std.proofs.Common.{ap, sym, ◌∙◌}
use Rattle.std.specs.List.{list_all}
use Rattle.tk_query.specs.Holds.{holds}
use Rattle.tk_query.proofs.HoldsLemmas.{holds-All}
use Rattle.tk_query.proofs.RuleLemmas.{some_map, all_false}
use Rattle.tk_query.proofs.rules.+column_tests.Goals as goal

pub column_test_of-returns-in-All : goal.column_test_of-returns-in-All
column_test_of-returns-in-All t c = some_map c.column_test_of_all.result _ _
    (λ column_test all r. record { within = λ e fails. ap (λ d. holds r d e) c.in-All.is ∙ holds-All r c.in-All.members e ∙ ap (list_all (λ m. holds r m e)) (sym c.deref.ensures.value) ∙ (all r).all_within e fails })
    c.column_test_of_all.ensures

pub column_test_of_all-returns-in-Some : goal.column_test_of_all-returns-in-Some
column_test_of_all-returns-in-Some t c r = record {
  all_within = λ e fails. all_false (λ m. holds r m e) c.args.members.now c.loop-member.member-index c.member-item.result c.loop-member-test.true (ap (λ m. holds r m e) (sym c.member-item.is) ∙ (c.in-Some.ensures r).within e fails);
}

pub column_test_of-returns-in_default : goal.column_test_of-returns-in_default
column_test_of-returns-in_default t c =
    let d = c.in_default in
    some_map c.test_of_rule.result _ _
    (λ column_test all r. record {
      within = λ e fails. c.rule_of.ensures.judges (record { not_all = d.not-All; not_any = d.not-Any; not_not = d.not-Not }) r e ∙ (all r).only e fails;
    })
    c.test_of_rule.ensures
