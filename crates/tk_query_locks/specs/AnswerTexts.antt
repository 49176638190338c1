-- The answer in the program's words.
use Rattle.std.specs.Prelude.{ℕ, Bool, true, false, List, ◌∷◌, ◌++◌, codes}
use Rattle.std.specs.Fmt.{decimal}
use Rattle.tk_events.specs.Fields.{field_text}
use Rattle.tk_query.specs.AnswerTexts.{blank}
use Rattle.tk_query_locks.specs.declared.answers.LockAnswer.{LockAnswer}
use Rattle.tk_query_locks.specs.declared.answers.LockAnswer.TheVariants.{Yes, No, NoPair}

-- executions that conflict kept away from each other; or the starts of the first two that didn't,
-- and the least lock over which they conflict; or no two conflict
abbrev pub lock_answer_text : LockAnswer → List ℕ
lock_answer_text Yes = codes "yes"
lock_answer_text (No p q name) =
    codes "no " ++ decimal p ++ blank ∷ decimal q ++ blank ∷ field_text name
lock_answer_text NoPair = codes "no pair"

abbrev pub lock_answer_yes : LockAnswer → Bool
lock_answer_yes Yes = true
lock_answer_yes _ = false
