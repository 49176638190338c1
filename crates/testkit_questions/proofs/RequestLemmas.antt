-- The faults of words: which there are, and of which there is none.
use Rattle.std.proofs.Common.{◌≡◌, ◌≢◌, ℕ, ◌+◌, ◌∷◌, [], List, Vec, Global, Ok, Err}
use Rattle.std.proofs.Common.{sym, subst, inl, inr}
use Rattle.tk_record.specs.Selections.{selection_name}
use Rattle.tk_record.specs.declared.selections.Selection.{Selection}
use Rattle.tk_record.specs.declared.selections.Selection.TheVariants.{All}
use Rattle.tk_query_conditions.specs.declared.conditions.Condition.{Condition}
use Rattle.tk_query_conditions.specs.declared.faults.CondFault.TheVariants as condition_faults
use Rattle.testkit_questions.specs.declared.faults.AskFault.{AskFault}
use Rattle.testkit_questions.specs.declared.faults.AskFault.TheVariants as faults
use Rattle.testkit_questions.specs.declared.questions.Question.{Question}
use Rattle.testkit_questions.specs.declared.questions.Question.TheVariants as questions
use Rattle.testkit_questions.specs.declared.questions.QuestionName.{QuestionName}
use Rattle.testkit_questions.specs.declared.questions.QuestionName.TheVariants as names
use Rattle.testkit_questions.specs.Questions.{Begins, IsAskedAs, IsConditionFault}
use Rattle.testkit_questions.specs.Questions.{IsConditionsReading, IsEnd, IsExclusiveReading}
use Rattle.testkit_questions.specs.Questions.{IsMatchReading, IsReadAfter, IsStatsReading, Reading}
use Rattle.testkit_questions.specs.Questions.{mode_name, question_word}
use Rattle.testkit_questions.specs.Requests.{IsExplainedAs, IsNamedToExplain, IsRequestedAs}

-- the faults that words have; a condition's is never that memory was refused
abbrev pub IsFaultOfWords : AskFault → Type 0
IsFaultOfWords faults.Question = Unit {0}
IsFaultOfWords (faults.Word i) = Unit {0}
IsFaultOfWords (faults.Condition i why) = why ≢ condition_faults.Memory
IsFaultOfWords faults.Memory = Unit {0}
IsFaultOfWords _ = ⊥

abbrev IsSound : Reading → Type 0
IsSound (Ok question) = Unit {0}
IsSound (Err fault) = IsFaultOfWords fault

sound_as : (a x : Reading) → a ≡ x → IsSound x → IsSound a
sound_as a x e h = subst IsSound (sym e) h

begun : {A : Type 0} (name : A → List ℕ) (words : List (List ℕ)) (R : Type 0)
    (P : A → List (List ℕ) → Type 0) (X : Type 0)
    → ((a : A) (rest : List (List ℕ)) → P a rest → R) → (X → R) → Begins name words P X → R
begun name words R P X one none (inl (a, rest, is, h)) = one a rest h
begun name words R P X one none (inr (other, h)) = none h

module _ (a : Reading) where
  bad_word : (i : ℕ) → a ≡ Err (faults.Word i) → IsSound a
  bad_word i e = sound_as a (Err (faults.Word i)) e tt

  sound_end : (question : Question) (first : ℕ) (words : List (List ℕ))
      → IsEnd question first words a → IsSound a
  sound_end question first [] e = sound_as a (Ok question) e tt
  sound_end question first (_ ∷ _) e = bad_word first e

  sound_stats : (s : Selection) (first : ℕ) (words : List (List ℕ))
      → IsStatsReading s first words a → IsSound a
  sound_stats s first words (inl (e, h, p)) = sound_as a (Ok (questions.Stats s e)) p tt
  sound_stats s first words (inr (i, h, p)) = bad_word (first + i) p

  sound_fault : (first : ℕ) (texts : List (List ℕ)) (fault : AskFault)
      → IsConditionFault first texts fault → a ≡ Err fault → IsSound a
  sound_fault first texts fault (inl (at, why, bad, e)) p =
      sound_as a (Err fault) p
      (subst IsFaultOfWords (sym e) bad.read)
  sound_fault first texts fault (inr e) p =
      sound_as a (Err fault) p (subst IsFaultOfWords (sym e) tt)

  sound_conditions : (question : Vec Condition Global → Question) (first : ℕ)
      (texts : List (List ℕ)) → IsConditionsReading question first texts a → IsSound a
  sound_conditions question first texts (inl (cs, h, p)) = sound_as a (Ok (question cs)) p tt
  sound_conditions question first texts (inr (fault, h, p)) = sound_fault first texts fault h p

  sound_match : (s : Selection) (first : ℕ) (words : List (List ℕ))
      → IsMatchReading s first words a → IsSound a
  sound_match s first words =
      begun mode_name words (IsSound a) _ _
      (λ m. sound_conditions (questions.Match s m) (first + 1)) (bad_word first)

  sound_exclusive : (first : ℕ) (texts : List (List ℕ)) → IsExclusiveReading first texts a
      → IsSound a
  sound_exclusive first texts (inl (w, r, h, p)) =
      sound_as a (Ok (questions.Exclusive w r)) p tt
  sound_exclusive first texts (inr (inl (i, h, p))) = bad_word (first + i) p
  sound_exclusive first texts (inr (inr (few, fault, h, p))) = sound_fault first texts fault h p

  sound_after : (name : QuestionName) (first : ℕ) (words : List (List ℕ))
      → IsReadAfter name first words a → IsSound a
  sound_after names.Stats first words =
      begun selection_name words (IsSound a) _ _
      (λ s. sound_stats s (first + 1)) (sound_stats All first words)
  sound_after names.Count first words =
      begun selection_name words (IsSound a) _ _
      (λ s. sound_end (questions.Count s) (first + 1)) (bad_word first)
  sound_after names.Match first words =
      begun selection_name words (IsSound a) _ _
      (λ s. sound_match s (first + 1)) (sound_match All first words)
  sound_after names.List first words =
      begun selection_name words (IsSound a) _ _
      (λ s. sound_conditions (questions.List s) (first + 1)) (bad_word first)
  sound_after names.Exclusive first words = sound_exclusive first words
  sound_after names.Executions first words =
      begun selection_name words (IsSound a) _ _
      (λ s. sound_end (questions.Executions s) (first + 1))
      (sound_end (questions.Executions All) first words)
  sound_after names.Lifecycle first words = sound_end questions.Lifecycle first words
  sound_after names.Locks first words = sound_end questions.Locks first words
  sound_after names.Report first words = sound_end questions.Report first words

  sound_asked : (words : List (List ℕ)) → IsAskedAs words a → IsSound a
  sound_asked words =
      begun question_word words (IsSound a) _ _ (λ name. sound_after name 0)
      (λ p. sound_as a (Err faults.Question) p tt)

  sound_named : (name : QuestionName) (words : List (List ℕ)) → IsNamedToExplain name words a
      → IsSound a
  sound_named names.Stats words = sound_after names.Stats 1 words
  sound_named names.Count words = bad_word 0
  sound_named names.Match words = bad_word 0
  sound_named names.List words = sound_after names.List 1 words
  sound_named names.Exclusive words = sound_after names.Exclusive 1 words
  sound_named names.Executions words = sound_after names.Executions 1 words
  sound_named names.Lifecycle words = sound_after names.Lifecycle 1 words
  sound_named names.Locks words = sound_after names.Locks 1 words
  sound_named names.Report words = bad_word 0

  sound_explained : (words : List (List ℕ)) → IsExplainedAs words a → IsSound a
  sound_explained words =
      begun question_word words (IsSound a) _ _ sound_named (sound_after names.Match 0 words)

-- what words are refused for is a fault of words
pub fault_of_words : (words : List (List ℕ)) (fault : AskFault) → IsRequestedAs words (Err fault)
    → IsFaultOfWords fault
fault_of_words words fault (inl (rest, is, flag, h)) = sound_explained (Err fault) rest h
fault_of_words words fault (inr (other, flag, h)) = sound_asked (Err fault) words h
