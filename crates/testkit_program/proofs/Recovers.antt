-- What recovering a record text answers is what the job says of it.
use Rattle.std.proofs.Common.{ℕ, List, Option, Some, None, Ok}
use Rattle.std.specs.Prelude.{IfSome, IsErrOf}
use Rattle.tk_record.specs.Recorded.{Recorded}
use Rattle.tk_record_text.specs.Text.{IsAnswerSoFar, text_in}
use Rattle.tk_record_text.specs.declared.reading.ReadFault.{ReadFault}
use Rattle.tk_record_text.specs.declared.versions.Version.TheVariants.{Three}
use Rattle.testkit_program.specs.Jobs.{IsRecovered, Transfer}

-- what was read is no fault
pub is_read : {X : Type 0} (x : X) (fault : ReadFault) → ¬ (IsErrOf {T = X} (Ok x) fault)
is_read x fault e = cc

-- the record was read so far, and its text written
pub recovered : (t : Transfer) (fault : Option ReadFault) (r : Recorded)
    (Written : List ℕ → Type 0) → IfSome t.input (λ bytes. IsAnswerSoFar bytes (Ok (r, fault)))
    → Written (text_in Three r) → IsRecovered t fault Written
recovered t fault r Written read written = each t.input read
  where
    each : (input : Option (List ℕ)) → IfSome input (λ bytes. IsAnswerSoFar bytes (Ok (r, fault))) → IfSome input (λ bytes. (r : Recorded) × IsAnswerSoFar bytes (Ok (r, fault)) × Written (text_in Three r))
    each None read = tt
    each (Some bytes) read = (r, read, written)
