-- The text of an id without its escapes.
use Rattle.std.specs.Prelude.{ℕ, List, [], ◌∷◌, ◌++◌, map}
use Rattle.std.specs.List.{join_with_byte}
use Rattle.tk_ids.specs.Characters.{slash, open_bracket, close_bracket, colon}
use Rattle.tk_ids.specs.IdText.{SegmentView}

-- `[tag:value]`, with no escapes
abbrev pub plain_segment_text : SegmentView → List ℕ
plain_segment_text s =
    open_bracket ∷ s.tag ++ colon ∷ s.value ++ close_bracket ∷ []

-- the segments' texts with no escapes, joined by `/`
abbrev pub plain_text : List SegmentView → List ℕ
plain_text segments = join_with_byte slash (map plain_segment_text segments)
