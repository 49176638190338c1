-- The machine that reads an id's text without keeping its segments.
use Rattle.std.specs.Prelude.{◌≡◌, ◌≤◌, ◌<◌, ℕ, Bool, true, false, ◌==◌, ◌&&◌}
use Rattle.std.specs.Prelude.{List, length, slice_index}
use Rattle.std.specs.Prelude.{Option, Some, None, option_map, is_some, if◌then◌else◌}
use Rattle.tk_ids.specs.declared.escapes.Escape.{Escape}
use Rattle.tk_ids.specs.declared.escapes.Escape.TheVariants.{Plain, Percent, Digit}
use Rattle.tk_ids.specs.declared.scanning.Part.{Part}
use Rattle.tk_ids.specs.declared.scanning.ScanState.{ScanState}
use Rattle.tk_ids.specs.declared.scanning.ScanState.TheVariants.{Start, Tag, Value, End}
use Rattle.tk_ids.specs.Characters.{percent_sign, open_bracket, close_bracket, colon, slash}
use Rattle.tk_ids.specs.IdText.{SegmentView, digits_of, id_text, IsId}
use Rattle.tk_ids.specs.Reading.{byte_of, is_first_digit}

-- a tag or a value as far as it is read
abbrev pub part : Bool → Escape → Part
part has_bytes escape = record { has_bytes = has_bytes; escape = escape }

-- one more byte inside a tag or a value, where it may stand there
abbrev pub part_after : Bool → Escape → ℕ → Option Part
part_after has_bytes Plain b =
    if b == percent_sign then Some (part has_bytes Percent)
    else (if is_some (digits_of b) then None else Some (part true Plain))
part_after has_bytes Percent b =
    if is_first_digit b then Some (part has_bytes (Digit b)) else None
part_after has_bytes (Digit x) b = if is_some (byte_of x b) then Some (part true Plain) else None

-- the tag or the value isn't empty, and the byte that ends it comes
abbrev pub is_ended : ℕ → Bool → Escape → ℕ → Bool
is_ended stop has_bytes Plain b = b == stop && has_bytes
is_ended stop has_bytes Percent b = false
is_ended stop has_bytes (Digit x) b = false

-- one more byte, where it may stand there
abbrev pub state_after : ScanState → ℕ → Option ScanState
state_after Start b = if b == open_bracket then Some (Tag (part false Plain)) else None
state_after (Tag p) b =
    if is_ended colon p.has_bytes p.escape b then Some (Value (part false Plain))
    else option_map Tag (part_after p.has_bytes p.escape b)
state_after (Value p) b =
    if is_ended close_bracket p.has_bytes p.escape b then Some End
    else option_map Value (part_after p.has_bytes p.escape b)
state_after End b = if b == slash then Some Start else None

-- a byte that needs no escape leaves the state as it is
abbrev pub KeepsPlainBytes : ScanState → Type 0
KeepsPlainBytes state = (b : ℕ) → digits_of b ≡ None → state_after state b ≡ Some state

-- no byte from `from` on and before `end` needs an escape
pub record ArePlain (bytes : List ℕ) (from end : ℕ) : Type 0 where
  pub after : from ≤ end
  pub within : end ≤ length bytes
  pub plain : (i : ℕ) → from ≤ i → i < end → digits_of (slice_index bytes i) ≡ None

-- how many segments end at a state
abbrev pub ended_segments : ScanState → ℕ
ended_segments Start = 0
ended_segments (Tag p) = 0
ended_segments (Value p) = 0
ended_segments End = 1

-- the text is that of an id of `count` segments
abbrev pub HasSegments : List ℕ → ℕ → Type 0
HasSegments text count =
    (id : List SegmentView) × IsId id × (text ≡ id_text id) × (count ≡ length id)
