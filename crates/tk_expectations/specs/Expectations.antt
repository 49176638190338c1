-- When an expectation of a record is met: where the answer to its question is a yes.
use Rattle.std.specs.Prelude.{◌≡◌, ◌≢◌, ℕ, Bool, true, false, Result, Ok, Err}
use Rattle.std.specs.Prelude.{List, [], ◌∷◌, ◌++◌, map}
use Rattle.std.specs.Borrow.{Bor}
use Rattle.std.specs.List.{flat_map}
use Rattle.tk_record.specs.Recorded.{Recorded}
use Rattle.tk_record.specs.Selections.{Selected}
use Rattle.tk_record.specs.Statistics.{nothing_expected}
use Rattle.tk_record.specs.declared.statistics.Expected.{Expected}
use Rattle.tk_query_conditions.specs.declared.conditions.Condition.{Condition}
use Rattle.tk_report_text.specs.Reports.{report_of_record}
use Rattle.testkit_questions.specs.Answers.{picked}
use Rattle.testkit_questions.specs.Characters.{blank}
use Rattle.testkit_questions.specs.Conditions.{IsConditionsFault}
use Rattle.testkit_questions.specs.Questions.{AreConditions, AreHolders, Expecting}
use Rattle.testkit_questions.specs.Questions.{IsBadExpectation}
use Rattle.tk_expectations.specs.declared.expectations.Expect.{Expect}
use Rattle.tk_expectations.specs.declared.failures.Failure.{Failure}
use Rattle.tk_expectations.specs.declared.failures.Failure.TheVariants as failures

-- texts, as their bytes
abbrev pub texts_of : List (Bor (List ℕ)) → List (List ℕ)
texts_of texts = map (λ t. t.now) texts

-- the events that are asked: those that the selection picks
abbrev pub asked_of : Expect → Selected
asked_of e = picked e.selection e.«record».now

-- a failure that says what was expected shows the answer, which is a no; none is of a run
abbrev pub IsUnmet : (Bool → List ℕ → Type 0) → Failure → Type 0
IsUnmet Answers (failures.Unmet unmet) = Answers false unmet.explanation.bytes
IsUnmet Answers (failures.Run text) = ⊥
IsUnmet Answers _ = Unit {0}

-- The answer is a yes, and what is expected next is asked of the same events; or it is a no, and
-- the failure shows it; or the failure is another one.
abbrev pub IsJudged : Expect → (Bool → List ℕ → Type 0) → Result Expect Failure → Type 0
IsJudged e Answers (Ok next) = (next ≡ e) × (text : List ℕ) × Answers true text
IsJudged e Answers (Err failure) = IsUnmet Answers failure

-- what is answered about the conditions that the texts spell
abbrev pub OfConditions :
    List (List ℕ) → (List Condition → Bool → List ℕ → Type 0) → Bool → List ℕ → Type 0
OfConditions texts Answers is_yes text =
    (conditions : List Condition) × AreConditions texts conditions × Answers conditions is_yes text

-- what is answered about the conditions of writers and of readers that the texts spell
abbrev pub OfHolders :
    List (List ℕ) → (Condition → Condition → Bool → List ℕ → Type 0) → Bool → List ℕ → Type 0
OfHolders texts Answers is_yes text =
    (writers : Condition) × (readers : Condition)
    × AreHolders texts writers readers × Answers writers readers is_yes text

-- the text is these words, with a blank between one and the next
abbrev pub IsSpaced : List ℕ → List (List ℕ) → Type 0
IsSpaced text words =
    (before : List (List ℕ)) × (last : List ℕ) × (words ≡ before ++ last ∷ [])
    × (text ≡ flat_map (λ word. word ++ blank ∷ []) before ++ last)

-- what is answered about the numbers that the words of a text expect
abbrev pub OfWords : List ℕ → (Expected → Bool → List ℕ → Type 0) → Bool → List ℕ → Type 0
OfWords words_text Answers is_yes text =
    (words : List (List ℕ)) × IsSpaced words_text words
    × (expected : Expected) × Expecting nothing_expected words expected
    × Answers expected is_yes text

-- Whether the report of a record is the expected one. How the answer is shown is left open.
abbrev pub ComparesReport : Recorded → List ℕ → Bool → List ℕ → Type 0
ComparesReport r expected true text = report_of_record r ≡ expected
ComparesReport r expected false text = report_of_record r ≢ expected

-- a failure that names a text is about one that spells no condition, the first such one
abbrev pub RefusesConditions : List (List ℕ) → Failure → Type 0
RefusesConditions texts (failures.Condition fault shown) = IsConditionsFault texts fault
RefusesConditions texts (failures.Word at shown) = ⊥
RefusesConditions texts (failures.Run text) = ⊥
RefusesConditions texts _ = Unit {0}

-- a failure that names a word is about one that expects nothing, the first such one
abbrev pub RefusesWords : List ℕ → Failure → Type 0
RefusesWords words_text (failures.Condition fault shown) = ⊥
RefusesWords words_text (failures.Word at shown) =
    (words : List (List ℕ)) × IsSpaced words_text words × IsBadExpectation words at
RefusesWords words_text (failures.Run text) = ⊥
RefusesWords words_text _ = Unit {0}
