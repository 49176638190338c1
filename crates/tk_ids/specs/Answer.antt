-- What reading a text answers.
use Rattle.std.specs.Prelude.{◌≡◌, ℕ, ◌<◌, List, [], ◌⊎◌, length, take, Result, Ok, Err}
use Rattle.tk_ids.specs.declared.id_faults.IdFault.{IdFault}
use Rattle.tk_ids.specs.declared.id_faults.IdFault.TheVariants.{Empty, BadSegment, BadEscape}
use Rattle.tk_ids.specs.declared.id_faults.IdFault.TheVariants.{TooLong, Memory}
use Rattle.tk_ids.specs.Prefix.{IsLongestPrefix}
use Rattle.tk_ids.specs.IdText.{SegmentView, IsId, IsIdText, id_text, FitsLimits, EndsInEscape}

-- a text that is no id's and isn't empty, and whose longest prefix with which an id's text begins
-- has `at` bytes
pub record IsBadAt (text : List ℕ) (at : ℕ) : Type 0 where
  pub some : 0 < length text
  pub no_id : ¬ IsIdText text
  pub prefix : IsLongestPrefix IsIdText text at

-- what reading a text answers; at any text the answer may be `Memory`
abbrev pub IsReadAs : List ℕ → Result (List SegmentView) IdFault → Type 0
IsReadAs text (Ok id) = IsId id × (text ≡ id_text id) × FitsLimits id
IsReadAs text (Err Empty) = text ≡ []
IsReadAs text (Err (BadSegment at)) = IsBadAt text at × ¬ EndsInEscape (take at text)
IsReadAs text (Err (BadEscape at)) = IsBadAt text at × EndsInEscape (take at text)
IsReadAs text (Err TooLong) =
    (id : List SegmentView) × IsId id × (text ≡ id_text id) × ¬ FitsLimits id
IsReadAs text (Err Memory) = Unit {0}

-- what making a segment of a tag and a value answers; at any of them it may be `Memory`
abbrev pub IsSegmentOf : List ℕ → List ℕ → Result SegmentView IdFault → Type 0
IsSegmentOf tag value (Ok s) =
    (s ≡ record { tag = tag; value = value })
    × (0 < length tag) × (0 < length value)
IsSegmentOf tag value (Err Empty) = (tag ≡ []) ⊎ (value ≡ [])
IsSegmentOf tag value (Err Memory) = Unit {0}
IsSegmentOf tag value (Err _) = ⊥

-- what making an id of these segments answers; at any of them it may be `Memory`
abbrev pub IsMadeOf : List SegmentView → Result (List SegmentView) IdFault → Type 0
IsMadeOf segments (Ok id) = (id ≡ segments) × FitsLimits segments
IsMadeOf segments (Err TooLong) = ¬ FitsLimits segments
IsMadeOf segments (Err Memory) = Unit {0}
IsMadeOf segments (Err _) = ⊥
