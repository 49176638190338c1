-- What writing an explanation does.
use Rattle.std.specs.Prelude.{ℕ, Bool, List, Option, Result, Ok, Err}
use Rattle.std.specs.Io.KnownBytes.{Appends}
use Rattle.tk_streams.specs.Stream.{AppendsPrefix}
use Rattle.tk_explanations.specs.declared.faults.ExplainFault.{ExplainFault}
use Rattle.tk_explanations.specs.declared.faults.ExplainFault.TheVariants.{Device, Memory}

-- The explanation was added to what a target held, where that is known, and the result says whether
-- the answer is a yes; or a prefix of it was added, and the target broke; or an allocation failed.
abbrev pub IsExplained :
    (Bool → List ℕ → Type 0) → Option (List ℕ) → Option (List ℕ) → Result Bool ExplainFault →
    Type 0
IsExplained Explains old new (Ok is_yes) =
    (text : List ℕ) × Explains is_yes text × Appends old new text
IsExplained Explains old new (Err Device) =
    (is_yes : Bool) × (text : List ℕ) × Explains is_yes text × AppendsPrefix old new text
IsExplained Explains old new (Err Memory) = Unit {0}
