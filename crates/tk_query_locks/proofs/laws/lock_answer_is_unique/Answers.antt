use Rattle.tk_query_locks.proofs.AnswerIsUnique.{one_answer}
use Rattle.tk_query_locks.proofs.laws.lock_answer_is_unique.Goals as goal

pub returns : goal.returns
returns c = one_answer
