use Rattle.tk_query_conditions.proofs.AnswerIsUnique.{text_is_read}
use Rattle.tk_query_conditions.proofs.laws.text_is_read.Goals as goal

pub returns : goal.returns
returns c = text_is_read
