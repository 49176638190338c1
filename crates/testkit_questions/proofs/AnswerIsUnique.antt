-- The same words about the same input have one outcome.
use Rattle.std.proofs.Common.{◌≡◌, ℕ, Bool, List, Some, Result, Ok, Err, refl, sym, ap, subst, ◌∙◌}
use Rattle.tk_record.specs.Recorded.{Recorded}
use Rattle.tk_record_text.specs.declared.reading.ReadFault.{ReadFault}
use Rattle.tk_record_text.specs.declared.reading.ReadFault.TheVariants as read
use Rattle.tk_record_text.specs.Laws as record_laws
use Rattle.tk_record_text.specs.Text.{IsAnswer}
use Rattle.tk_record_text.proofs.AnswerIsUnique as recorded
use Rattle.testkit_questions.specs.declared.faults.AskFault.{AskFault}
use Rattle.testkit_questions.specs.declared.faults.AskFault.TheVariants as faults
use Rattle.testkit_questions.specs.declared.questions.Request.{Request}
use Rattle.testkit_questions.specs.Requests.{IsRequestedAs, Requests}
use Rattle.testkit_questions.specs.Explanations.{IsResponseTo}
use Rattle.testkit_questions.specs.Asked.{IsAnswered, IsRefusal}
use Rattle.testkit_questions.specs.Laws.{Answered, Refused, IsSettled, AnswerIsUnique}
use Rattle.testkit_questions.proofs.OneRequest.{one_request}
use Rattle.testkit_questions.proofs.UniqueReading.{IsOfWords}
use Rattle.tk_explanations.specs.Laws.{ExplanationsAreUnique}
use Rattle.testkit_questions.proofs.OneResponse.{one_response}

-- what a settled refusal is of: the words, or the input after good words
data Cause (words : List (List ℕ)) (input : List ℕ) (fault : AskFault) : Type 0 where
  of_words : IsOfWords {X = Request} (Err fault) → IsRequestedAs words (Err fault) → Cause words input fault
  of_input : (f : ReadFault) (q : Request) → fault ≡ faults.Read f → Requests words q → record_laws.IsSettled (Err f) → IsAnswer input (Err f) → Cause words input fault

settled_read : (f : ReadFault) → IsSettled (Refused (faults.Read f)) → record_laws.IsSettled (Err f)
settled_read read.NoHeader s = tt
settled_read (read.BadLine n) s = tt
settled_read (read.Append n f) s = tt
settled_read (read.CutOff n) s = tt
settled_read read.TooLarge s = tt
settled_read read.Device s = absurd s
settled_read read.Memory s = absurd s

not_device : (f : ReadFault) → IsSettled (Refused (faults.Read f)) → ¬ (f ≡ read.Device)
not_device f s e = subst (λ (g : ReadFault). IsSettled (Refused (faults.Read g))) e s

-- a settled fault isn't that memory was refused
settled : (fault : AskFault) → IsSettled (Refused fault) → IsOfWords {X = Request} (Err fault)
settled fault s e = subst (λ (f : AskFault). IsSettled (Refused f)) (memory_fault fault e) s
  where
    memory_fault : (f : AskFault) → (let x : Result Request AskFault = Err f in x) ≡ Err faults.Memory → f ≡ faults.Memory
    memory_fault f e = cc

good : (q : Request) → IsOfWords (let x : Result Request AskFault = Ok q in x)
good q e = cc

cause : (words : List (List ℕ)) (input : List ℕ) (fault : AskFault) → IsSettled (Refused fault) → IsRefusal words (Some input) fault → Cause words input fault
cause words input faults.Question s h = of_words (settled faults.Question s) h
cause words input (faults.Word i) s h = of_words (settled (faults.Word i) s) h
cause words input (faults.Condition i f) s h = of_words (settled (faults.Condition i f) s) h.0
cause words input (faults.Read f) s h = of_input f h.0.0 refl h.0.1 (settled_read f s) (h.1.1 (not_device f s))
cause words input faults.Device s h = absurd s
cause words input faults.Memory s h = absurd s

ok_err : (r : Recorded) (f : ReadFault) → (let x : Result Recorded ReadFault = Ok r in x) ≡ Err f → ⊥
ok_err r f e = cc

same_error : (f g : ReadFault) → (let x : Result Recorded ReadFault = Err f in x) ≡ Err g → f ≡ g
same_error f g e = cc

not_refused : (words : List (List ℕ)) (input : List ℕ) (y : Bool) (o : List ℕ) (fault : AskFault) → IsAnswered words input y o → Cause words input fault → ⊥
not_refused words input y o fault a (of_words s h) = one_request words (Ok a.0) (Err fault) (good a.0) s a.1 h
not_refused words input y o fault a (of_input f q is asks s h) = ok_err a.2.0 f (recorded.answer_is_unique input (Ok a.2.0) (Err f) tt s a.2.1 h)

one_refusal : (words : List (List ℕ)) (input : List ℕ) (f g : AskFault) → Cause words input f → Cause words input g → f ≡ g
one_refusal words input f g (of_words s h) (of_words t k) = one_request words (Err f) (Err g) s t h k
one_refusal words input f g (of_words s h) (of_input j q is asks t k) = absurd (one_request words (Err f) (Ok q) s (good q) h asks)
one_refusal words input f g (of_input i p at asks s h) (of_words t k) = absurd (one_request words (Ok p) (Err g) (good p) t asks k)
one_refusal words input f g (of_input i p at asks s h) (of_input j q is too t k) =
    at ∙ ap (λ (x : ReadFault). faults.Read x) (same_error i j (recorded.answer_is_unique input (Err i) (Err j) s t h k)) ∙ sym is

answered_same : (y z : Bool) (o p : List ℕ) → y ≡ z → o ≡ p → Answered y o ≡ Answered z p
answered_same y z o p e f = rw (e, f) refl

pub answer_is_unique : ExplanationsAreUnique → AnswerIsUnique
answer_is_unique unique words input (Answered y o) (Answered z u) s t a b =
    let r = (recorded.text_is_unique a.2.1.1.0 b.2.1.1.0 a.2.0 b.2.0 a.2.1.1.1 b.2.1.1.1 (sym a.2.1.1.2 ∙ b.2.1.1.2)).1 in
    let same = one_response unique a.0 b.0 b.2.0 y z o u (one_request words (Ok a.0) (Ok b.0) (good a.0) (good b.0) a.1 b.1) (subst (λ (x : Recorded). IsResponseTo a.0 x y o) r a.2.2) b.2.2 in
    answered_same y z o u same.0 same.1
answer_is_unique unique words input (Answered y o) (Refused g) s t a b = absurd (not_refused words input y o g a (cause words input g t b))
answer_is_unique unique words input (Refused f) (Answered z u) s t a b = absurd (not_refused words input z u f b (cause words input f s a))
answer_is_unique unique words input (Refused f) (Refused g) s t a b = ap (λ (x : AskFault). Refused x) (one_refusal words input f g (cause words input f s a) (cause words input g t b))
