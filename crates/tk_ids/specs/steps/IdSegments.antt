-- What private clauses and proofs alone name.
use Rattle.std.specs.Prelude.{◌≡◌, ◌≢◌, ℕ, ◌+◌, ◌<◌, ◌≤◌, List, length, slice_index, Option, Some}
use Rattle.std.specs.Prelude.{None, Result, Ok, Err, ◌∷◌, ◌++◌}
use Rattle.tk_ids.specs.declared.id_faults.IdFault.{IdFault}
use Rattle.tk_ids.specs.Answer.{IsReadAs}
use Rattle.tk_ids.specs.Characters.{slash}
use Rattle.tk_ids.specs.IdSegments.{IsTextOfId}
use Rattle.tk_ids.specs.declared.segment_lists.PartLengths.{PartLengths}
use Rattle.tk_ids.specs.IdText.{escaped, EndsInEscape}
use Rattle.tk_ids.specs.declared.id_faults.IdFault.TheVariants.{BadSegment, BadEscape}

-- the text is that of an id within the limits, or why it is not
abbrev pub IsCheckedAs : List ℕ → Result ℕ IdFault → Type 0
IsCheckedAs text (Ok segment_count) = IsTextOfId text segment_count
IsCheckedAs text (Err fault) = IsReadAs text (Err fault)

-- no slash stands at this position or after it
abbrev pub HasNoSlashFrom : List ℕ → ℕ → Type 0
HasNoSlashFrom text n = (k : ℕ) → n ≤ k → k < length text → slice_index text k ≢ slash

-- where the last slash of a text stands, where there is one
abbrev pub IsLastSlash : List ℕ → Option ℕ → Type 0
IsLastSlash text None = HasNoSlashFrom text 0
IsLastSlash text (Some at) =
    (at < length text) × (slice_index text at ≡ slash) × HasNoSlashFrom text (at + 1)

-- how many bytes a tag or a value has with its escapes, and without
pub record HasLengths (part : List ℕ) (escaped_length plain_length : ℕ) : Type 0 where
  pub escaped : escaped_length ≡ length (escaped part)
  pub plain : plain_length ≡ length part

-- what these lengths are of a tag or a value that `stop` ends
abbrev pub AreLengths : List ℕ → ℕ → PartLengths → Type 0
AreLengths text stop lengths =
    (part rest : List ℕ) → text ≡ escaped part ++ stop ∷ rest →
    HasLengths part lengths.escaped lengths.plain

-- the fault of a text that goes wrong after this prefix
abbrev pub IsFaultAfter : List ℕ → IdFault → Type 0
IsFaultAfter prefix (BadSegment at) = (at ≡ length prefix) × ¬ EndsInEscape prefix
IsFaultAfter prefix (BadEscape at) = (at ≡ length prefix) × EndsInEscape prefix
IsFaultAfter prefix _ = ⊥
