use Rattle.std.proofs.Common.{subst}
use Rattle.tk_record.specs.Selections.{Selected}
use Rattle.tk_query_locks.specs.LockAnswers.{IsLockAnswer}
use Rattle.testkit_questions.proofs.answers.answer_locks.Goals as goal

pub returns : goal.returns
returns c = (
  c.in_ok-found.found,
  subst (λ (s : Selected). IsLockAnswer s c.in_ok-found.found) c.in_ok-events.ensures c.in_ok-found.ensures,
  c.in_ok-answer.ensures.0,
  c.in_ok-answer.ensures.1,
)
