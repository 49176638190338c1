use Rattle.std.proofs.Common.{rules, ◌<◌, length, refl, sym, ap, ◌∙◌, get_or, set, Some, None}
use Rattle.tk_query.proofs.KeyLemmas.{answers_more, answers_put}
use Rattle.tk_query.proofs.masks.answer_by_key.Goals as goal

pub returns-in-Some-clause-answer : goal.returns-in-Some-clause-answer
returns-in-Some-clause-answer c =
    c.requires.answers_are c.args.key c.in-Some.answer
    (ap (λ l. get_or l c.args.key None) (sym c.deref.ensures.value) ∙ sym c.answer_before.ensures ∙ c.in-Some.is)

pub loop-answers-preserved : goal.loop-answers-preserved
loop-answers-preserved c = answers_more c.args.«record».now c.args.test c.loop-answers.answers.items c.push.new.self.items c.loop-answers.invariant c.in_ok-push.ensures.items

pub returns-clause-answers : goal.returns-clause-answers
returns-clause-answers c =
    let answers = c.loop-answers.answers.items in
    let within : c.args.key < length answers = search rules in
    answers_put c.args.«record».now c.args.test answers (set answers c.args.key (Some c.key_passes-answer.result)) c.args.key c.key_passes-answer.result
    c.loop-answers.invariant c.key_passes-answer.ensures within refl
