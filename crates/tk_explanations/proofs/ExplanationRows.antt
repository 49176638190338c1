-- Rows that were written explain an answer.
use Rattle.std.proofs.Common.{◌≡◌, ℕ, Bool, List, ap, sym, subst}
use Rattle.std.specs.Prelude.{Option, Result, Ok, Err}
use Rattle.tk_record.specs.Recorded.{Recorded}
use Rattle.tk_explanations.specs.Explained.{IsExplained}
use Rattle.tk_explanations.specs.steps.{IsWritten}
use Rattle.tk_explanations.specs.Rows.{AsText, rows_text}
use Rattle.tk_explanations.specs.declared.faults.ExplainFault.{ExplainFault}
use Rattle.tk_explanations.specs.declared.faults.ExplainFault.TheVariants.{Device, Memory}
use Rattle.tk_explanations.specs.declared.rows.Row.{Row}

pub explained : (Explains : Bool → List Row → Type 0) (r s : Recorded) (is_yes : Bool) (rows : List Row) (old new : Option (List ℕ)) (result : Result Bool ExplainFault) → s ≡ r → Explains is_yes rows → IsWritten is_yes (rows_text s rows) old new result
    → IsExplained (AsText Explains r) old new result
explained Explains r s is_yes rows old new (Ok answer) same h w = (rows_text s rows, (rows, subst (λ (b : Bool). Explains b rows) (sym w.0) h, ap (λ (t : Recorded). rows_text t rows) same), w.1)
explained Explains r s is_yes rows old new (Err Device) same h w = (is_yes, rows_text s rows, (rows, h, ap (λ (t : Recorded). rows_text t rows) same), w)
explained Explains r s is_yes rows old new (Err Memory) same h w = absurd w
