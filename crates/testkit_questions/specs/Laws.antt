-- What follows from the definitions of questions and of their answers.
use Rattle.std.specs.Prelude.{◌≡◌, ℕ, Bool, List, Some}
use Rattle.tk_record_text.specs.declared.reading.ReadFault.TheVariants as read
use Rattle.testkit_questions.specs.declared.faults.AskFault.{AskFault}
use Rattle.testkit_questions.specs.declared.faults.AskFault.TheVariants as faults
use Rattle.testkit_questions.specs.Asked.{IsAnswered, IsRefusal}

-- what asking comes to: a yes or a no with its output, or a fault
pub data Outcome : Type 0 where
  Answered : Bool → List ℕ → Outcome
  Refused : AskFault → Outcome

-- the outcome is one that is promised, where the input is known
abbrev pub IsOutcome : List (List ℕ) → List ℕ → Outcome → Type 0
IsOutcome words input (Answered is_yes output) = IsAnswered words input is_yes output
IsOutcome words input (Refused fault) = IsRefusal words (Some input) fault

-- the outcome depends on the words and the input alone, and not on memory or a device
abbrev pub IsSettled : Outcome → Type 0
IsSettled (Refused faults.Memory) = ⊥
IsSettled (Refused faults.Device) = ⊥
IsSettled (Refused (faults.Read read.Memory)) = ⊥
IsSettled (Refused (faults.Read read.Device)) = ⊥
IsSettled _ = Unit {0}

-- the same words about the same input never have two outcomes
abbrev pub AnswerIsUnique : Type 0
AnswerIsUnique =
    (words : List (List ℕ)) (input : List ℕ) (a b : Outcome) →
    IsSettled a → IsSettled b → IsOutcome words input a → IsOutcome words input b → a ≡ b
