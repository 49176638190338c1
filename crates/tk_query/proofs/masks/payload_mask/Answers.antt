use Rattle.std.proofs.Common.{◌≡◌, suc, ◌+◌, take, false, MatchOption, map, length, length-take, arith, ◌∙◌, ap, subst, ◌++◌, ◌∷◌, []}
use Rattle.std.proofs.lemmas.List.{length-map}
use Rattle.std.proofs.lemmas.Result.{err_from_is_err_and}
use Rattle.std.specs.Prelude.{◌==◌}
use Rattle.tk_record.proofs.PickedEntries.{if_ok_same}
use Rattle.tk_query.specs.declared.rules.Rule.TheVariants.{Payload}
use Rattle.tk_query.specs.steps.Rules.{rule_holds}
use Rattle.tk_query_lifecycle.proofs.ListLemmas.{there}
use Rattle.tk_query.proofs.MaskLemmas.{column_more, column_done}
use Rattle.tk_query.proofs.masks.payload_mask.Goals as goal

pub loop-position-preserved : goal.loop-position-preserved
loop-position-preserved c =
    let r = c.args.«record».now in
    let holds = rule_holds (Payload c.args.test c.args.payload_test) r in
    let b = c.answer_among-answer.result in
    let next = there r.entries c.loop-position.position (omega arith) in
    let is : b ≡ holds next.0 = subst (λ o. MatchOption o (b ≡ false) (λ e. b ≡ holds e)) next.1 c.answer_among-answer.ensures in
    let step : c.loop-position.position + 1 ≡ suc c.loop-position.position = omega arith in
    column_more holds r.entries c.loop-position.position next.0 b c.loop-position.column.items c.push.new.self.items (ap (λ n. take n r.entries) step ∙ next.2) c.loop-position.invariant is
    (c.in_ok-push.ensures.items ∙ ap (λ b. c.loop-position.column.items ++ b ∷ []) c.byte_of.ensures)

pub returns : goal.returns
returns c =
    let r = c.args.«record».now in
    let holds = rule_holds (Payload c.args.test c.args.payload_test) r in
    if_ok_same c.of_byte.result _ (map holds r.entries)
    (ap (map (λ x. x == 1)) c.deref.ensures.value ∙ column_done holds r.entries c.loop-position.position c.loop-position.column.items (omega arith) c.loop-position.invariant)
    c.of_byte.ensures

pub returns-in_err-candidates : goal.returns-in_err-candidates
returns-in_err-candidates c = let p = err_from_is_err_and c.from_residual.result c.from_residual.ensures.1 in rw p.1 tt

pub returns-in_err-column : goal.returns-in_err-column
returns-in_err-column c = let p = err_from_is_err_and c.from_residual-in_err-column.result c.from_residual-in_err-column.ensures.1 in rw p.1 tt

pub loop-position-init : goal.loop-position-init
loop-position-init c = c.in_ok-column.ensures.items

pub answer_among-answer-requires : goal.answer_among-answer-requires
answer_among-answer-requires c = c.in_ok-candidates.ensures

pub returns-in_err-push : goal.returns-in_err-push
returns-in_err-push c = let p = err_from_is_err_and c.from_residual-in_err-push.result c.from_residual-in_err-push.ensures.1 in rw p.1 tt

pub of_byte-requires : goal.of_byte-requires
of_byte-requires c =
    let long = simp (length-map, length-take) at (ap length (c.deref.ensures.value ∙ c.loop-position.invariant)) in
    omega (arith, long, c.len.ensures.bound)
