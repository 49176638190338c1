use Rattle.std.proofs.Common.{rules, ◌≡◌, ◌∷◌, ◌++◌, [], ◌<◌, ℕ, suc, List, Ok, length, map, take, subst, sym, add-one}
use Rattle.std.proofs.lemmas.Result.{err_from_is_err_and}
use Rattle.tk_query_conditions.specs.declared.conditions.Condition.{Condition}
use Rattle.tk_query_conditions.specs.Answer.{IsReadAs}
use Rattle.testkit_questions.specs.Questions.{AreConditions}
use Rattle.testkit_questions.proofs.WordLemmas.{bad_text, conditions_more, texts_more}
use Rattle.testkit_questions.proofs.conditions.read_conditions.Goals as goal

pub loop-number-preserved : goal.loop-number-preserved
loop-number-preserved g c =
    let text = g.T.AsStr.text in
    let texts = map text c.args.texts.now in
    let within : c.loop-number.number < length c.args.texts.now = search rules in
    let more = texts_more text c.args.texts.now c.loop-number.number c.index-texts-number.result within c.index-texts-number.is in
    let read = subst (λ (t : List ℕ). IsReadAs t (Ok c.in_ok-condition.condition)) c.as_str.ensures c.in_ok-condition.ensures.ok in
    let pushed : c.push.new.self.items ≡ c.loop-number.conditions.items ++ c.in_ok-condition.condition ∷ [] = search rules in
    rw add-one (subst (λ (cs : List Condition). AreConditions (take (suc c.loop-number.number) texts) cs) (sym pushed)
    (conditions_more texts c.loop-number.number (text c.index-texts-number.result) c.loop-number.conditions.items c.in_ok-condition.condition more c.loop-number.invariant read))

pub returns-in_err-condition-clause-err : goal.returns-in_err-condition-clause-err
returns-in_err-condition-clause-err g c =
    let p = err_from_is_err_and c.from_residual.result c.from_residual.ensures.1 in
    rw (p.1, p.2) (bad_text g.T.AsStr.text c.args.texts.now c.loop-number.number c.index-texts-number.result c.as_str.result.now c.loop-number.conditions.items _
    c.loop-number-test.true c.index-texts-number.is c.as_str.ensures c.loop-number.invariant c.in_err-condition.ensures.err)
