use Rattle.testkit_questions.proofs.AnswerIsUnique as lemma
use Rattle.testkit_questions.proofs.laws.answer_is_unique.Goals as goal

pub returns : goal.returns
returns c = lemma.answer_is_unique c.explanations_are_unique.ensures
