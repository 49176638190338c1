-- Unique ids and their texts.
use Rattle.std.specs.Prelude.{◌≡◌, ℕ, ◌-◌, take, ◌<◌, ◌≤◌, List, [], ◌∷◌, ◌++◌, ◌⊎◌, length, map}
use Rattle.std.specs.Prelude.{Option, Some, None, ◌==◌, if◌then◌else◌, IsUtf8, codes}
use Rattle.tk_ids.specs.declared.ids.TheConstants.{MAX_BYTES, MAX_SEGMENTS}
use Rattle.std.specs.List.{flat_map, join_with_byte, AllByRecursion}
use Rattle.tk_ids.specs.Characters.{percent_sign, plus_sign, open_bracket, close_bracket, colon}
use Rattle.tk_ids.specs.Characters.{slash, digit_two, digit_three, digit_five}
use Rattle.tk_ids.specs.Characters.{letter_a, letter_b, letter_d, letter_f}

-- a segment: its tag and its value, as bytes
pub record SegmentView : Type 0 where
  pub tag : List ℕ
  pub value : List ℕ

-- the two digits with which a byte is escaped, where it is:
-- `%25`, `%2B`, `%5B`, `%5D`, `%3A`, `%2F` for `%`, `+`, `[`, `]`, `:`, `/`
abbrev pub digits_of : ℕ → Option (ℕ × ℕ)
digits_of b =
    if b == percent_sign then Some (digit_two, digit_five)
    else if b == plus_sign then Some (digit_two, letter_b)
    else if b == open_bracket then Some (digit_five, letter_b)
    else if b == close_bracket then Some (digit_five, letter_d)
    else if b == colon then Some (digit_three, letter_a)
    else if b == slash then Some (digit_two, letter_f)
    else None

-- how a byte is written, with these two digits where it is escaped
abbrev pub spelled_by : ℕ → Option (ℕ × ℕ) → List ℕ
spelled_by b None = b ∷ []
spelled_by b (Some d) = percent_sign ∷ d.0 ∷ d.1 ∷ []

-- a tag or a value with its escapes
abbrev pub escaped : List ℕ → List ℕ
escaped text = flat_map (λ b. spelled_by b (digits_of b)) text

-- `[tag:value]`
abbrev pub segment_text : SegmentView → List ℕ
segment_text s =
    open_bracket ∷ escaped s.tag ++ colon ∷ escaped s.value ++ close_bracket ∷ []

-- the segments' texts, joined by `/`
abbrev pub id_text : List SegmentView → List ℕ
id_text segments = join_with_byte slash (map segment_text segments)

-- a tag or a value: a text that isn't empty
abbrev pub IsNonEmptyText : List ℕ → Type 0
IsNonEmptyText text = (0 < length text) × IsUtf8 text

-- a tag and a value, neither of them empty
abbrev pub IsSegment : SegmentView → Type 0
IsSegment s = IsNonEmptyText s.tag × IsNonEmptyText s.value

-- one segment or more
abbrev pub IsId : List SegmentView → Type 0
IsId segments = (0 < length segments) × AllByRecursion IsSegment segments

-- some id has the text
abbrev pub IsIdText : List ℕ → Type 0
IsIdText text = (id : List SegmentView) × IsId id × (text ≡ id_text id)

-- the text and the number of segments are within the limits
abbrev pub FitsLimits : List SegmentView → Type 0
FitsLimits id = (length (id_text id) ≤ MAX_BYTES) × (length id ≤ MAX_SEGMENTS)

-- exactly one segment, whose tag is `engine`
abbrev pub IsEngine : List SegmentView → Type 0
IsEngine id = (value : List ℕ) × (id ≡ record { tag = codes "engine"; value = value } ∷ [])

-- the text ends within an escape, after `%` or after `%` and one digit: an id's text has `%`
-- nowhere else
abbrev pub EndsInEscape : List ℕ → Type 0
EndsInEscape text =
    ((prefix : List ℕ) × (text ≡ prefix ++ percent_sign ∷ []))
    ⊎ ((prefix : List ℕ) × (digit : ℕ)
    × (text ≡ prefix ++ percent_sign ∷ digit ∷ []))

-- the id without its last segment
abbrev pub parent_of : List SegmentView → List SegmentView
parent_of id = take (length id - 1) id

-- an id stands below another: it begins with the segments of the other, and has more
abbrev pub IsBelow : List SegmentView → List SegmentView → Type 0
IsBelow above id = (s : SegmentView) × (more : List SegmentView) × (id ≡ above ++ s ∷ more)
