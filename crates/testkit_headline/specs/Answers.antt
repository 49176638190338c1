-- What `ask` answers, as a function of its words and its input's bytes.
use Rattle.std.specs.Prelude.{◌≡◌, ℕ, Bool, List, Option}
use Rattle.std.specs.Io.KnownBytes.{Appends}
use Rattle.testkit_questions.specs.Laws.{Outcome, Answered, IsOutcome, IsSettled}

-- The output is what was written. With its yes or no it is an outcome that is promised of these
-- words and this input, and no other is.
pub record IsTheAnswer
    (words : List (List ℕ)) (input : List ℕ) (is_yes : Bool) (old new : Option (List ℕ))
    : Type 0 where
  pub output : List ℕ
  pub written : Appends old new output
  pub promised : IsOutcome words input (Answered is_yes output)
  pub only : (other : Outcome) → IsSettled other → IsOutcome words input other
      → other ≡ Answered is_yes output
