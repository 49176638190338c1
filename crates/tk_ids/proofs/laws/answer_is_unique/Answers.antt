use Rattle.tk_ids.proofs.AnswerLemmas.{answer_is_unique}
use Rattle.tk_ids.proofs.laws.answer_is_unique.Goals as goal

pub returns : goal.returns
returns c = answer_is_unique
