use Rattle.std.proofs.Common.{inl, inr, map, string_bytes, subst, sym}
use Rattle.testkit_questions.specs.Questions.{IsAskedAs, Reading}
use Rattle.testkit_questions.specs.Requests.{IsExplainedAs}
use Rattle.testkit_questions.proofs.reading.read_request.Goals as goal

pub returns-in-Some : goal.returns-in-Some
returns-in-Some c =
    let rest = map string_bytes c.in-Some.rest.now in
    let reading = subst (λ (x : Reading). IsExplainedAs rest x)
    (sym c.request_of.ensures.question) c.read_explained.ensures in
    inl (rest, c.in-Some.ensures.some, c.request_of.ensures.flag, reading)

pub returns-in-None : goal.returns-in-None
returns-in-None c =
    let words = map string_bytes c.args.words.now in
    let reading = subst (λ (x : Reading). IsAskedAs words x)
    (sym c.request_of-in-None.ensures.question) c.read_question.ensures in
    inr (c.in-None.ensures.none, c.request_of-in-None.ensures.flag, reading)
