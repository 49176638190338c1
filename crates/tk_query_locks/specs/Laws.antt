-- What the definition of the answer implies.
use Rattle.std.specs.Prelude.{◌≡◌}
use Rattle.tk_record.specs.Selections.{Selected}
use Rattle.tk_query_locks.specs.declared.answers.LockAnswer.{LockAnswer}
use Rattle.tk_query_locks.specs.LockAnswers.{IsLockAnswer}

-- the same events have one answer
abbrev pub LockAnswerIsUnique : Type 0
LockAnswerIsUnique =
    (asked : Selected) (a b : LockAnswer) → IsLockAnswer asked a → IsLockAnswer asked b → a ≡ b
