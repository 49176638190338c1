-- What asking a question does: it reads a record text to its end, and writes the answer.
use Rattle.std.specs.Prelude.{◌≢◌, ◌≤◌, ◌+◌, ◌⊎◌, ℕ, Bool, List, length, Option, Ok, Err}
use Rattle.std.specs.Prelude.{IfSome}
use Rattle.std.specs.Io.KnownBytes.{Appends, IsAtEnd}
use Rattle.tk_record.specs.Recorded.{Recorded}
use Rattle.tk_streams.specs.Stream.{AppendsPrefix, ConsumesUpTo}
use Rattle.tk_streams.specs.declared.transfers.TheConstants.{CHUNK}
use Rattle.tk_query_conditions.specs.declared.faults.CondFault.TheVariants as conditions
use Rattle.tk_record_text.specs.declared.reading.ReadFault.TheVariants as read
use Rattle.tk_record_text.specs.declared.reading.TheConstants.{MAX_TEXT}
use Rattle.tk_record_text.specs.Text.{IsAnswer}
use Rattle.testkit_questions.specs.declared.faults.AskFault.{AskFault}
use Rattle.testkit_questions.specs.declared.faults.AskFault.TheVariants as faults
use Rattle.testkit_questions.specs.declared.questions.Request.{Request}
use Rattle.testkit_questions.specs.Requests.{IsRequestedAs, Requests}
use Rattle.testkit_questions.specs.Explanations.{IsResponseTo}

-- the input is read as a record, and this is the response to the request about it
abbrev pub IsResponseAbout : Request → List ℕ → Bool → List ℕ → Type 0
IsResponseAbout request input is_yes output =
    (r : Recorded) × IsAnswer input (Ok r) × IsResponseTo request r is_yes output

-- the words ask for a response, and this is the one about the record that the input is read as
abbrev pub IsAnswered : List (List ℕ) → List ℕ → Bool → List ℕ → Type 0
IsAnswered words input is_yes output =
    (request : Request) × Requests words request × IsResponseAbout request input is_yes output

-- the answer was added to what was written, and nothing else
abbrev pub AddsAnswer :
    List (List ℕ) → List ℕ → Bool → Option (List ℕ) → Option (List ℕ) → Type 0
AddsAnswer words input is_yes old new =
    (output : List ℕ) × IsAnswered words input is_yes output × Appends old new output

-- a prefix of the answer was added to what was written, and nothing else
abbrev pub AddsPrefix : List (List ℕ) → List ℕ → Option (List ℕ) → Option (List ℕ) → Type 0
AddsPrefix words input old new =
    (is_yes : Bool) × (output : List ℕ)
    × IsAnswered words input is_yes output × AppendsPrefix old new output

-- No more was taken of the source than a record text may have and one read past that, or all of an
-- input that has no more than a record text may have.
abbrev pub IsReadInTime : (old new : Option (List ℕ)) → Type 0
IsReadInTime old new =
    ConsumesUpTo (MAX_TEXT + CHUNK) old new
    ⊎ (IsAtEnd new × IfSome old (λ input. length input ≤ MAX_TEXT))

-- the fault is of the words alone
abbrev pub IsOfWords : AskFault → Type 0
IsOfWords faults.Question = Unit {0}
IsOfWords (faults.Word i) = Unit {0}
IsOfWords (faults.Condition i fault) = Unit {0}
IsOfWords _ = ⊥

-- why there is no answer about an input: it is no record text, its device broke, or an allocation
-- failed, which is `Memory` and never `Read Memory`
abbrev pub IsReadRefusal : Option (List ℕ) → AskFault → Type 0
IsReadRefusal input (faults.Read fault) =
    (fault ≢ read.Memory)
    × (fault ≢ read.Device → IfSome input (λ bytes. IsAnswer bytes (Err fault)))
IsReadRefusal input faults.Memory = Unit {0}
IsReadRefusal input _ = ⊥

-- Where each refusal comes: the words are judged before the input is read. An allocation that
-- fails while a condition or the input is read gives `Memory`, never `Condition i Memory` or
-- `Read Memory`.
abbrev pub IsRefusal : List (List ℕ) → Option (List ℕ) → AskFault → Type 0
IsRefusal words input faults.Question = IsRequestedAs words (Err faults.Question)
IsRefusal words input (faults.Word i) = IsRequestedAs words (Err (faults.Word i))
IsRefusal words input (faults.Condition i fault) =
    IsRequestedAs words (Err (faults.Condition i fault)) × (fault ≢ conditions.Memory)
IsRefusal words input (faults.Read fault) =
    ((request : Request) × Requests words request) × IsReadRefusal input (faults.Read fault)
IsRefusal words input faults.Device = (request : Request) × Requests words request
IsRefusal words input faults.Memory = Unit {0}
