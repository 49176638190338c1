use Rattle.std.proofs.Common.{Bool, subst, sym}
use Rattle.testkit_questions.specs.Answers.{IsAnswerTo}
use Rattle.testkit_questions.specs.steps.{reply_is_yes, reply_text}
use Rattle.testkit_questions.proofs.explanations.write_answer.Goals as goal

pub returns-in-Ok-clause-written : goal.returns-in-Ok-clause-written
returns-in-Ok-clause-written g c =
    let reply = c.in_ok-reply.reply in
    let answer = subst (λ (b : Bool). IsAnswerTo c.args.question.now c.args.«record».now b
    (reply_text reply)) (sym c.is_yes-is_yes.ensures) c.in_ok-reply.ensures in
    (reply_text reply, answer, c.in-Ok.ensures.ok)

pub returns-in-Err-clause-written : goal.returns-in-Err-clause-written
returns-in-Err-clause-written g c =
    let reply = c.in_ok-reply.reply in
    (reply_is_yes reply, reply_text reply, c.in_ok-reply.ensures, c.in-Err.ensures.err)
