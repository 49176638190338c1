-- An answer, from what reading and writing gave.
use Rattle.std.proofs.Common.{◌≡◌, ◌⊎◌, arith, [], ℕ, Bool, List, Option, Some, None, Result}
use Rattle.std.proofs.Common.{Ok, Err, refl, subst, inl, inr}
use Rattle.std.specs.Prelude.{IfSome, IsErrOf}
use Rattle.std.specs.Io.KnownBytes.{Consumes, IsAtEnd}
use Rattle.tk_record.specs.Recorded.{Recorded}
use Rattle.tk_record_text.specs.Text.{IsAnswer}
use Rattle.tk_record_text.specs.declared.reading.ReadFault.{ReadFault}
use Rattle.tk_record_text.specs.declared.reading.ReadFault.TheVariants as read
use Rattle.tk_explanations.specs.Explained.{IsExplained}
use Rattle.tk_explanations.specs.declared.faults.ExplainFault.{ExplainFault}
use Rattle.tk_explanations.specs.declared.faults.ExplainFault.TheVariants as explain_faults
use Rattle.testkit_questions.specs.declared.faults.AskFault.{AskFault}
use Rattle.testkit_questions.specs.declared.faults.AskFault.TheVariants as faults
use Rattle.testkit_questions.specs.declared.questions.Request.{Request}
use Rattle.testkit_questions.specs.Asked.{AddsAnswer, AddsPrefix, IsOfWords, IsReadInTime}
use Rattle.testkit_questions.specs.Asked.{IsReadRefusal, IsRefusal}
use Rattle.testkit_questions.specs.Explanations.{IsResponseTo}
use Rattle.testkit_questions.specs.FaultsOfExplanations.{ask_fault_of}
use Rattle.testkit_questions.specs.Requests.{IsRequestedAs, Requests}
use Rattle.testkit_questions.proofs.RequestLemmas.{IsFaultOfWords, fault_of_words}

-- the fault that a result has
pub same_fault : {T : Type 0} (a b : AskFault) → IsErrOf {T = T} (Err a) b → a ≡ b
same_fault a b e = cc

pub no_fault : {T : Type 0} (x : T) (fault : AskFault) → ¬ (IsErrOf (Ok x) fault)
no_fault x fault e = cc

memory_no_device : faults.Memory ≡ faults.Device → ⊥
memory_no_device e = cc

if_known : (input : Option (List ℕ)) (P Q : List ℕ → Type 0) → ((b : List ℕ) → P b → Q b) → IfSome input P → IfSome input Q
if_known None P Q f h = tt
if_known (Some b) P Q f h = f b h

-- ---- what writing says of the whole request

-- what a target held before and after, and what is written of a request about a record
abbrev IsWrittenOf : Request → Recorded → Option (List ℕ) → Option (List ℕ) → Result Bool ExplainFault → Type 0
IsWrittenOf q r old new result = IsExplained (IsResponseTo q r) old new result

module _ (words : List (List ℕ)) (q : Request) (asks : Requests words q) where
  pub answered : (input : Option (List ℕ)) (r : Recorded) (old new : Option (List ℕ)) (is_yes : Bool) → IfSome input (λ b. IsAnswer b (Ok r))
      → IsWrittenOf q r old new (Ok is_yes) → IfSome input (λ b. AddsAnswer words b is_yes old new)
  answered input r old new is_yes had w =
      if_known input (λ b. IsAnswer b (Ok r)) (λ b. AddsAnswer words b is_yes old new)
      (λ b h. (w.0, (q, asks, (r, h, w.1)), w.2)) had

  pub answered_partly : (input : Option (List ℕ)) (r : Recorded) (old new : Option (List ℕ)) (fault : ExplainFault) → IfSome input (λ b. IsAnswer b (Ok r))
      → IsWrittenOf q r old new (Err fault) → ask_fault_of fault ≡ faults.Device → IfSome input (λ b. AddsPrefix words b old new)
  answered_partly input r old new explain_faults.Device had w e =
      if_known input (λ b. IsAnswer b (Ok r)) (λ b. AddsPrefix words b old new)
      (λ b h. (w.0, w.1, (q, asks, (r, h, w.2)), w.3)) had
  answered_partly input r old new explain_faults.Memory had w e = absurd (memory_no_device e)

  pub answered_refusal : (input : Option (List ℕ)) (fault : ExplainFault) → IsRefusal words input (ask_fault_of fault)
  answered_refusal input explain_faults.Device = (q, asks)
  answered_refusal input explain_faults.Memory = tt

pub written_unread : (fault : ExplainFault) → ¬ (IsOfWords (ask_fault_of fault))
written_unread explain_faults.Device h = h
written_unread explain_faults.Memory h = h

pub written_no_source : (fault : ExplainFault) (why : ReadFault) → ¬ (ask_fault_of fault ≡ faults.Read why)
written_no_source explain_faults.Device why e = cc
written_no_source explain_faults.Memory why e = cc

pub written_unwritten : (fault : ExplainFault) (Same : Type 0) → (IsErrOf {T = Bool} (Err fault) explain_faults.Memory → Same) → (ask_fault_of fault ≡ faults.Device) ⊎ Same
written_unwritten explain_faults.Device Same h = inl refl
written_unwritten explain_faults.Memory Same h = inr (h refl)

pub written_device : (fault : ExplainFault) (Same : Type 0) → (IsErrOf {T = Bool} (Err fault) explain_faults.Device → Same) → ask_fault_of fault ≡ faults.Device → Same
written_device explain_faults.Device Same h e = h refl
written_device explain_faults.Memory Same h e = absurd (memory_no_device e)

-- the faults of the words
pub refused_words : (words : List (List ℕ)) (input : Option (List ℕ)) (fault : AskFault) → IsRequestedAs words (Err fault) → IsRefusal words input fault
refused_words words input faults.Question asked = asked
refused_words words input (faults.Word i) asked = asked
refused_words words input (faults.Condition i fault) asked = (asked, fault_of_words words (faults.Condition i fault) asked)
refused_words words input (faults.Read fault) asked = absurd (fault_of_words words (faults.Read fault) asked)
refused_words words input faults.Device asked = absurd (fault_of_words words faults.Device asked)
refused_words words input faults.Memory asked = tt

-- the faults of reading
pub refused_read : (words : List (List ℕ)) (input : Option (List ℕ)) (q : Request) (fault : AskFault) → Requests words q → IsReadRefusal input fault → IsRefusal words input fault
refused_read words input q faults.Question asks h = absurd h
refused_read words input q (faults.Word i) asks h = absurd h
refused_read words input q (faults.Condition i fault) asks h = absurd h
refused_read words input q (faults.Read fault) asks h = ((q, asks), h)
refused_read words input q faults.Device asks h = absurd h
refused_read words input q faults.Memory asks h = tt

pub not_of_words : (input : Option (List ℕ)) (fault : AskFault) → IsReadRefusal input fault → ¬ (IsOfWords fault)
not_of_words input faults.Question h of_words = h
not_of_words input (faults.Word i) h of_words = h
not_of_words input (faults.Condition i fault) h of_words = h
not_of_words input (faults.Read fault) h of_words = of_words
not_of_words input faults.Device h of_words = h
not_of_words input faults.Memory h of_words = of_words

pub same_read : (a b : ReadFault) → IsErrOf {T = Recorded} (Err a) b → a ≡ b
same_read a b e = cc

pub no_read : (r : Recorded) (fault : ReadFault) → ¬ (IsErrOf {T = Recorded} (Ok r) fault)
no_read r fault e = cc

memory_no_source : faults.Memory ≡ faults.Read read.Device → ⊥
memory_no_source e = cc

pub memory_fault : {T : Type 0} → ¬ (IsErrOf {T = T} (Err faults.Memory) (faults.Read read.Device))
memory_fault e = memory_no_source (same_fault _ _ e)

same_source : (fault : ReadFault) → faults.Read fault ≡ faults.Read read.Device → fault ≡ read.Device
same_source fault e = cc

pub source_fault : {T : Type 0} (fault : ReadFault) → IsErrOf {T = T} (Err (faults.Read fault)) (faults.Read read.Device) → fault ≡ read.Device
source_fault fault e = same_source fault (same_fault _ _ e)

-- the faults of the words are of no device, and those of reading of no target
pub no_device : (words : List (List ℕ)) (fault : AskFault) → IsRequestedAs words (Err fault) → ¬ (IsErrOf {T = Bool} (Err fault) faults.Device)
no_device words fault asked e = subst IsFaultOfWords (same_fault fault faults.Device e) (fault_of_words words fault asked)

pub no_source : (words : List (List ℕ)) (fault : AskFault) (source : ReadFault) → IsRequestedAs words (Err fault) → ¬ (IsErrOf {T = Bool} (Err fault) (faults.Read source))
no_source words fault source asked e = subst IsFaultOfWords (same_fault fault (faults.Read source) e) (fault_of_words words fault asked)

pub no_target : (input : Option (List ℕ)) (fault : AskFault) → IsReadRefusal input fault → ¬ (IsErrOf {T = Bool} (Err fault) faults.Device)
no_target input fault h e = subst (λ (f : AskFault). IsReadRefusal input f) (same_fault fault faults.Device e) h

-- how far the source was read: not at all, to the end of a record text, or until the reader stopped
none_taken : (bytes : Option (List ℕ)) → Consumes bytes bytes []
none_taken None = tt
none_taken (Some bytes) = refl

pub unread_in_time : (bytes : Option (List ℕ)) → IsReadInTime bytes bytes
unread_in_time bytes = inl ([], none_taken bytes, omega arith)

pub whole_in_time : (old new : Option (List ℕ)) (r : Recorded) → IsAtEnd new
    → IfSome old (λ input. IsAnswer input (Ok r)) → IsReadInTime old new
whole_in_time old new r end answer = inr (end, if_known old _ _ (λ input h. h.0) answer)
