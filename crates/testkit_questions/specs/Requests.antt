-- Which words ask for an answer, and which for its explanation.
use Rattle.std.specs.Prelude.{◌≡◌, ◌≢◌, ◌⊎◌, Bool, true, false, ℕ, List, ◌∷◌, codes, Result, Ok}
use Rattle.std.specs.Prelude.{Err}
use Rattle.testkit_questions.specs.declared.faults.AskFault.{AskFault}
use Rattle.testkit_questions.specs.declared.faults.AskFault.TheVariants as faults
use Rattle.testkit_questions.specs.declared.questions.QuestionName.{QuestionName}
use Rattle.testkit_questions.specs.declared.questions.QuestionName.TheVariants as names
use Rattle.testkit_questions.specs.declared.questions.Request.{Request}
use Rattle.testkit_questions.specs.Questions.{Begins, IsAskedAs, IsReadAfter, Reading}
use Rattle.testkit_questions.specs.Questions.{question_word}

abbrev pub explain_word : List ℕ
explain_word = codes "explain"

-- What the words after `explain` and a question's name are read as. A match is asked without its
-- name, and there is nothing to explain in a number or a report.
abbrev pub IsNamedToExplain : QuestionName → List (List ℕ) → Reading → Type 0
IsNamedToExplain names.Count words reading = reading ≡ Err (faults.Word 0)
IsNamedToExplain names.Match words reading = reading ≡ Err (faults.Word 0)
IsNamedToExplain names.Report words reading = reading ≡ Err (faults.Word 0)
IsNamedToExplain name words reading = IsReadAfter name 1 words reading

-- What the words after `explain` are read as. They name a question, or are read as those after
-- `match`.
abbrev pub IsExplainedAs : List (List ℕ) → Reading → Type 0
IsExplainedAs words reading =
    Begins question_word words (λ name rest. IsNamedToExplain name rest reading)
    (IsReadAfter names.Match 0 words reading)

-- the question that is asked for, or the fault
abbrev pub reading_of : Result Request AskFault → Reading
reading_of (Ok request) = Ok request.question
reading_of (Err fault) = Err fault

-- where something is asked for, it is an answer with its explanation, or it is one without
abbrev pub IsFlagged : Bool → Result Request AskFault → Type 0
IsFlagged flag (Ok request) = request.is_explained ≡ flag
IsFlagged flag (Err fault) = Unit {0}

-- the words begin with another word than `explain`, or there are none
abbrev pub IsUnexplained : List (List ℕ) → Type 0
IsUnexplained words = (rest : List (List ℕ)) → words ≢ explain_word ∷ rest

-- what the words are read as: what they ask for, or the first fault
abbrev pub IsRequestedAs : List (List ℕ) → Result Request AskFault → Type 0
IsRequestedAs words result =
    ((rest : List (List ℕ)) × (words ≡ explain_word ∷ rest)
    × IsFlagged true result × IsExplainedAs rest (reading_of result))
    ⊎ (IsUnexplained words × IsFlagged false result × IsAskedAs words (reading_of result))

-- the words ask for this
abbrev pub Requests : List (List ℕ) → Request → Type 0
Requests words request = IsRequestedAs words (Ok request)
