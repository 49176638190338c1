-- Which words ask which question, and which words are bad.
use Rattle.std.specs.Prelude.{◌≡◌, ◌≢◌, ℕ, ◌+◌, ◌<◌, ◌≤◌, ◌^◌, ◌⊎◌, List, [], ◌∷◌, ◌++◌, take}
use Rattle.std.specs.Prelude.{codes, Option, Some, None, Result, Ok, Err, is_none, ◌&&◌}
use Rattle.std.specs.Prelude.{if◌then◌else◌, length, Vec}
use Rattle.std.specs.Global.{Global}
use Rattle.std.specs.List.{slice_get}
use Rattle.std.specs.Fmt.{decimal}
use Rattle.tk_query_conditions.specs.declared.faults.CondFault.{CondFault}
use Rattle.tk_query_conditions.specs.declared.faults.CondFault.TheVariants as condition_faults
use Rattle.tk_query_conditions.specs.declared.conditions.Condition.{Condition}
use Rattle.tk_query_conditions.specs.Answer.{IsReadAs}
use Rattle.tk_query_conditions.specs.Cond.{Any, Nothing}
use Rattle.tk_query_conditions.specs.CondOf.{cond_of}
use Rattle.tk_record.specs.declared.selections.Selection.{Selection}
use Rattle.tk_record.specs.declared.selections.Selection.TheVariants.{All}
use Rattle.tk_record.specs.declared.statistics.Expected.{Expected}
use Rattle.tk_record.specs.Selections.{selection_name}
use Rattle.tk_record.specs.Statistics.{nothing_expected, expected_of, with_expected, is_counted}
use Rattle.testkit_questions.specs.Characters.{equals_sign}
use Rattle.testkit_questions.specs.declared.faults.AskFault.{AskFault}
use Rattle.testkit_questions.specs.declared.faults.AskFault.TheVariants as faults
use Rattle.testkit_questions.specs.declared.questions.Mode.{Mode}
use Rattle.testkit_questions.specs.declared.questions.Mode.TheVariants.{Exactly, Loosely, InOrder}
use Rattle.testkit_questions.specs.declared.questions.Question.{Question}
use Rattle.testkit_questions.specs.declared.questions.Question.TheVariants as questions
use Rattle.testkit_questions.specs.declared.questions.QuestionName.{QuestionName}
use Rattle.testkit_questions.specs.declared.questions.QuestionName.TheVariants as names

-- ---- names

-- the word that names a question
abbrev pub question_word : QuestionName → List ℕ
question_word names.Stats = codes "stats"
question_word names.Count = codes "count"
question_word names.Match = codes "match"
question_word names.List = codes "list"
question_word names.Exclusive = codes "exclusive"
question_word names.Executions = codes "executions"
question_word names.Lifecycle = codes "lifecycle"
question_word names.Locks = codes "locks"
question_word names.Report = codes "report"

abbrev pub mode_name : Mode → List ℕ
mode_name Exactly = codes "exactly"
mode_name Loosely = codes "loosely"
mode_name InOrder = codes "in-order"

-- what a word is read as that may be a name
abbrev pub IsNamed : {A : Type 0} → (A → List ℕ) → List ℕ → Option A → Type 0
IsNamed name word (Some named) = word ≡ name named
IsNamed {A = A} name word None = (named : A) → word ≢ name named

-- there is no first word, or it is none of the names
abbrev pub IsNoName : {A : Type 0} → (A → List ℕ) → List (List ℕ) → Type 0
IsNoName name [] = Unit {0}
IsNoName name (word ∷ _) = IsNamed name word None

-- The words begin with one of the names, and `After` holds of it and of the words after it; or
-- they begin with none, and `Else` holds.
abbrev pub Begins :
    {A : Type 0} → (A → List ℕ) → List (List ℕ) → (A → List (List ℕ) → Type 0) → Type 0 → Type 0
Begins {A = A} name words After Else =
    ((named : A) × (rest : List (List ℕ)) × (words ≡ name named ∷ rest) × After named rest)
    ⊎ (IsNoName name words × Else)

-- ---- expectations and conditions

-- the word NAME=N
abbrev pub expectation_word : Selection → ℕ → List ℕ
expectation_word selection n = selection_name selection ++ equals_sign ∷ decimal n

-- the expectations with one more: of a statistic, and of each only once
abbrev pub expecting : Expected → Selection → ℕ → Option Expected
expecting e selection n =
    if is_none (expected_of e selection) && is_counted selection
    then Some (with_expected selection n e)
    else None

-- the word is NAME=N, and N has at most 64 bits
pub record IsExpectation (word : List ℕ) (selection : Selection) (n : ℕ) : Type 0 where
  pub number : n < 2 ^ 64
  pub word_is : word ≡ expectation_word selection n

-- What one word more makes of the expectations: None where it is no expectation, or one of a
-- statistic that has one.
abbrev pub IsNextExpected : Expected → List ℕ → Option Expected → Type 0
IsNextExpected expected word (Some next) =
    (selection : Selection) × (n : ℕ)
    × IsExpectation word selection n × (expecting expected selection n ≡ Some next)
IsNextExpected expected word None =
    (selection : Selection) (n : ℕ) →
    IsExpectation word selection n → expecting expected selection n ≡ None

-- the words add these expectations to the first ones
abbrev pub Expecting : Expected → List (List ℕ) → Expected → Type 0
Expecting first [] last = last ≡ first
Expecting first (word ∷ words) last =
    (next : Expected) × IsNextExpected first word (Some next) × Expecting next words last

-- the words before word i are expectations, and word i is none, or one of a statistic that an
-- earlier word names
pub record IsBadExpectation (words : List (List ℕ)) (i : ℕ) : Type 0 where
  pub expected : Expected
  pub before : Expecting nothing_expected (take i words) expected
  pub word : List ℕ
  pub at : slice_get words i ≡ Some word
  pub bad : IsNextExpected expected word None

-- each text is that of its condition
abbrev pub AreConditions : List (List ℕ) → List Condition → Type 0
AreConditions [] [] = Unit {0}
AreConditions (text ∷ texts) (c ∷ cs) = IsReadAs text (Ok c) × AreConditions texts cs
AreConditions _ _ = ⊥

-- the texts before text i are conditions, and text i is none
pub record IsBadCondition (texts : List (List ℕ)) (i : ℕ) (fault : CondFault) : Type 0 where
  pub conditions : List Condition
  pub before : AreConditions (take i texts) conditions
  pub text : List ℕ
  pub at : slice_get texts i ≡ Some text
  pub bad : IsReadAs text (Err fault)
  pub read : fault ≢ condition_faults.Memory

-- the fault of texts of which one is no condition, or for which memory was refused; the first text
-- has this number as a word
abbrev pub IsConditionFault : ℕ → List (List ℕ) → AskFault → Type 0
IsConditionFault first texts fault =
    ((at : ℕ) × (why : CondFault) × IsBadCondition texts at why
    × (fault ≡ faults.Condition (first + at) why))
    ⊎ (fault ≡ faults.Memory)

-- The texts are those of the conditions of writers and of readers. Without a second text the
-- readers' condition is `any()`, which holds of no event.
abbrev pub AreHolders : List (List ℕ) → Condition → Condition → Type 0
AreHolders texts writers readers =
    AreConditions texts (writers ∷ readers ∷ [])
    ⊎ (AreConditions texts (writers ∷ []) × (cond_of readers ≡ Any Nothing))

-- there is no text, or the first of the texts after two
abbrev pub IsBadHolder : List (List ℕ) → ℕ → Type 0
IsBadHolder texts i = ((texts ≡ []) × (i ≡ 0)) ⊎ ((2 < length texts) × (i ≡ 2))

-- ---- words

-- what words are read as: the question that they ask, or the fault of the first bad one
abbrev pub Reading : Type 0
Reading = Result Question AskFault

-- no word is left, or the first that is left is bad
abbrev pub IsEnd : Question → ℕ → List (List ℕ) → Reading → Type 0
IsEnd question first [] reading = reading ≡ Ok question
IsEnd question first (_ ∷ _) reading = reading ≡ Err (faults.Word first)

-- the words are what is expected of the statistics of the selection's events
abbrev pub IsStatsReading : Selection → ℕ → List (List ℕ) → Reading → Type 0
IsStatsReading selection first words reading =
    ((expected : Expected) × Expecting nothing_expected words expected
    × (reading ≡ Ok (questions.Stats selection expected)))
    ⊎ ((at : ℕ) × IsBadExpectation words at × (reading ≡ Err (faults.Word (first + at))))

-- the words are the texts of the question's conditions
abbrev pub IsConditionsReading :
    (Vec Condition Global → Question) → ℕ → List (List ℕ) → Reading → Type 0
IsConditionsReading question first texts reading =
    ((conditions : Vec Condition Global) × AreConditions texts conditions.items
    × (reading ≡ Ok (question conditions)))
    ⊎ ((fault : AskFault) × IsConditionFault first texts fault × (reading ≡ Err fault))

-- the words are a mode and the texts of conditions
abbrev pub IsMatchReading : Selection → ℕ → List (List ℕ) → Reading → Type 0
IsMatchReading selection first words reading =
    Begins mode_name words
    (λ mode texts. IsConditionsReading (questions.Match selection mode) (first + 1) texts reading)
    (reading ≡ Err (faults.Word first))

-- the words are the texts of the conditions of writers and of readers
abbrev pub IsExclusiveReading : ℕ → List (List ℕ) → Reading → Type 0
IsExclusiveReading first texts reading =
    ((writers : Condition) × (readers : Condition) × AreHolders texts writers readers
    × (reading ≡ Ok (questions.Exclusive writers readers)))
    ⊎ ((i : ℕ) × IsBadHolder texts i × (reading ≡ Err (faults.Word (first + i))))
    ⊎ ((length texts ≤ 2)
    × (fault : AskFault) × IsConditionFault first texts fault × (reading ≡ Err fault))

-- What the words after a question's name are read as; the first of them has this number. Where
-- a selection may stand and doesn't, all events are asked.
abbrev pub IsReadAfter : QuestionName → ℕ → List (List ℕ) → Reading → Type 0
IsReadAfter names.Stats first words reading =
    Begins selection_name words
    (λ selection rest. IsStatsReading selection (first + 1) rest reading)
    (IsStatsReading All first words reading)
IsReadAfter names.Count first words reading =
    Begins selection_name words
    (λ selection rest. IsEnd (questions.Count selection) (first + 1) rest reading)
    (reading ≡ Err (faults.Word first))
IsReadAfter names.Match first words reading =
    Begins selection_name words
    (λ selection rest. IsMatchReading selection (first + 1) rest reading)
    (IsMatchReading All first words reading)
IsReadAfter names.List first words reading =
    Begins selection_name words
    (λ selection texts. IsConditionsReading (questions.List selection) (first + 1) texts reading)
    (reading ≡ Err (faults.Word first))
IsReadAfter names.Exclusive first words reading = IsExclusiveReading first words reading
IsReadAfter names.Executions first words reading =
    Begins selection_name words
    (λ selection rest. IsEnd (questions.Executions selection) (first + 1) rest reading)
    (IsEnd (questions.Executions All) first words reading)
IsReadAfter names.Lifecycle first words reading = IsEnd questions.Lifecycle first words reading
IsReadAfter names.Locks first words reading = IsEnd questions.Locks first words reading
IsReadAfter names.Report first words reading = IsEnd questions.Report first words reading

-- what the words are read as, the first of which names a question
abbrev pub IsAskedAs : List (List ℕ) → Reading → Type 0
IsAskedAs words reading =
    Begins question_word words (λ name rest. IsReadAfter name 0 rest reading)
    (reading ≡ Err faults.Question)
