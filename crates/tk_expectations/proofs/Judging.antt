-- How judging conditions follows from judging an answer.
use Rattle.std.proofs.Common.{◌≡◌, ◌⊎◌, inl, inr, ◌++◌, ◌∷◌, [], ℕ, suc, Bool, List, Ok, Err, Some, refl, sym, ◌∙◌, subst, ap, length}
use Rattle.std.specs.Prelude.{Result, IfErr}
use Rattle.tk_query_conditions.specs.Cond.{Any, Nothing}
use Rattle.tk_query_conditions.specs.CondOf.{cond_of}
use Rattle.tk_query_conditions.specs.declared.conditions.Condition.{Condition}
use Rattle.tk_explanations.specs.declared.faults.ExplainFault.{ExplainFault}
use Rattle.tk_explanations.specs.Explained.{IsExplained}
use Rattle.testkit_questions.specs.Characters.{blank}
use Rattle.testkit_questions.specs.Questions.{AreConditions, AreHolders}
use Rattle.tk_expectations.specs.declared.expectations.Expect.{Expect}
use Rattle.tk_expectations.specs.declared.failures.Failure.{Failure}
use Rattle.tk_expectations.specs.declared.failures.Failure.TheVariants as failures
use Rattle.tk_expectations.specs.Expectations.{IsJudged, OfHolders, RefusesConditions}
use Rattle.tk_expectations.specs.steps.{IsAsked, IsJudgedBy}

pub as_many : (texts : List (List ℕ)) (cs : List Condition) → AreConditions texts cs
    → length cs ≡ length texts
as_many [] [] h = refl
as_many [] (c ∷ cs) h = absurd h
as_many (t ∷ texts) [] h = absurd h
as_many (t ∷ texts) (c ∷ cs) h = ap suc (as_many texts cs h.1)

-- what is written into an empty target is the explanation
pub explained : (Explains : Bool → List ℕ → Type 0) (old new : List ℕ) (is_yes : Bool)
    (result : Result Bool ExplainFault)
    → old ≡ [] → result ≡ Ok is_yes → IsExplained Explains (Some old) (Some new) result
    → Explains is_yes new
explained Explains old new is_yes result none is h =
    let w = subst (IsExplained Explains (Some old) (Some new)) is h in
    subst (Explains is_yes) (sym (w.2 ∙ ap (λ l. l ++ w.0) none)) w.1

-- what is answered is judged
pub judged : (e : Expect) (Answers : Bool → List ℕ → Type 0) (is_yes : Bool) (text : List ℕ)
    (result : Result Expect Failure)
    → Answers is_yes text → IsJudgedBy e is_yes text result → IsJudged e Answers result
judged e Answers is_yes text (Ok next) a h = (h.0, text, subst (λ b. Answers b text) h.1 a)
judged e Answers is_yes text (Err (failures.Unmet u)) a h =
    subst (λ b. Answers b u.explanation.bytes) h.0 (subst (Answers is_yes) (sym h.1) a)
judged e Answers is_yes text (Err (failures.Condition fault shown)) a h = absurd h
judged e Answers is_yes text (Err (failures.Word at shown)) a h = absurd h
judged e Answers is_yes text (Err (failures.Run shown)) a h = absurd h
judged e Answers is_yes text (Err (failures.Fault fault)) a h = tt

-- the conditions that texts spell, of writers and of readers
pub are_holders : (texts : List (List ℕ)) (cs : List Condition) (w r : Condition)
    → AreConditions texts cs → (cs ≡ w ∷ r ∷ []) ⊎ ((cs ≡ w ∷ []) × (cond_of r ≡ Any Nothing))
    → AreHolders texts w r
are_holders texts cs w r h (inl two) = inl (subst (AreConditions texts) two h)
are_holders texts cs w r h (inr one) = inr (subst (AreConditions texts) one.0 h, one.1)

-- what is judged of two conditions is judged of the texts that they spell
pub judged_holders : (e : Expect) (texts : List (List ℕ)) (writers readers : Condition)
    (Answers : Condition → Condition → Bool → List ℕ → Type 0) (result : Result Expect Failure)
    → AreHolders texts writers readers → IsJudged e (Answers writers readers) result
    → IsJudged e (OfHolders texts Answers) result
judged_holders e texts w r Answers (Ok next) a h = (h.0, h.1, (w, r, a, h.2))
judged_holders e texts w r Answers (Err (failures.Unmet u)) a h = (w, r, a, h)
judged_holders e texts w r Answers (Err (failures.Condition fault shown)) a h = tt
judged_holders e texts w r Answers (Err (failures.Word at shown)) a h = tt
judged_holders e texts w r Answers (Err (failures.Run shown)) a h = absurd h
judged_holders e texts w r Answers (Err (failures.Fault text)) a h = tt

-- an answer or a fault names no text
pub asked_refuses : (texts : List (List ℕ)) (result : Result Expect Failure) → IfErr result IsAsked
    → IfErr result (RefusesConditions texts)
asked_refuses texts (Ok next) h = tt
asked_refuses texts (Err (failures.Unmet u)) h = tt
asked_refuses texts (Err (failures.Condition fault shown)) h = absurd h
asked_refuses texts (Err (failures.Word at shown)) h = absurd h
asked_refuses texts (Err (failures.Run shown)) h = absurd h
asked_refuses texts (Err (failures.Fault text)) h = tt

-- a word with the blank after it
abbrev pub ended : List ℕ → List ℕ
ended word = word ++ blank ∷ []
