use Rattle.testkit_headline.proofs.Questions.{answered}
use Rattle.testkit_headline.proofs.laws.ask_question.Goals as goal

pub returns : goal.returns
returns g c = answered c.answer_is_unique.ensures _ _ _ _ c.ask.result c.ask.ensures.answer
