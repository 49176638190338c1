use Rattle.tk_query_conditions.proofs.AnswerIsUnique.{answer_is_unique}
use Rattle.tk_query_conditions.proofs.laws.answer_is_unique.Goals as goal

pub returns : goal.returns
returns c = answer_is_unique
