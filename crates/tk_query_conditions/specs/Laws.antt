-- What follows from the definitions of conditions' texts.
use Rattle.std.specs.Prelude.{◌≡◌, ℕ, List, length, Result, Ok, Err}
use Rattle.tk_query_conditions.specs.declared.conditions.Condition.{Condition}
use Rattle.tk_query_conditions.specs.Answer.{IsReadAs, IsShallowTo}
use Rattle.tk_query_conditions.specs.Cond.{Cond, cond_text}
use Rattle.tk_query_conditions.specs.CondOf.{cond_of}
use Rattle.tk_query_conditions.specs.declared.faults.CondFault.{CondFault}
use Rattle.tk_query_conditions.specs.declared.faults.CondFault.TheVariants.{BadAtom, Deep, Memory}

-- the answers are the same, or one of them is `Memory`
abbrev pub AreAlike : Result Condition CondFault → Result Condition CondFault → Type 0
AreAlike (Err Memory) b = Unit {0}
AreAlike (Ok c) (Ok d) = cond_of c ≡ cond_of d
AreAlike (Ok c) (Err Memory) = Unit {0}
AreAlike (Err (BadAtom m)) (Err (BadAtom n)) = m ≡ n
AreAlike (Err (BadAtom m)) (Err Memory) = Unit {0}
AreAlike (Err Deep) (Err Deep) = Unit {0}
AreAlike (Err Deep) (Err Memory) = Unit {0}
AreAlike _ _ = ⊥

-- no text has two answers
abbrev pub AnswerIsUnique : Type 0
AnswerIsUnique =
    (text : List ℕ) (a b : Result Condition CondFault) →
    IsReadAs text a → IsReadAs text b → AreAlike a b

-- no two conditions have one text
abbrev pub TextIsUnique : Type 0
TextIsUnique = (c d : Cond) → cond_text c ≡ cond_text d → c ≡ d

-- a condition's text is read as the condition, where no more brackets are open in it than may be
abbrev pub TextIsRead : Type 0
TextIsRead =
    (c : Condition) (answer : Result Condition CondFault) →
    let text = cond_text (cond_of c) in
    IsShallowTo text (length text) → IsReadAs text answer → AreAlike (Ok c) answer
