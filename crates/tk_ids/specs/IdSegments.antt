-- What an id keeps: its text alone, from which its segments are read.
use Rattle.std.specs.Prelude.{◌≡◌, ℕ, List, []}
use Rattle.std.specs.Prelude.{length, Option, Some, None}
use Rattle.tk_ids.specs.IdText.{SegmentView, IsId, id_text, FitsLimits}
use Rattle.tk_ids.specs.Machine.{run}
use Rattle.tk_ids.specs.Reading.{State, Before, InTag, InValue, Closed, step}

-- the segments that were read of a text, where it ends after one
abbrev pub whole_segments : Option State → List SegmentView
whole_segments None = []
whole_segments (Some (Before done)) = []
whole_segments (Some (InTag done p)) = []
whole_segments (Some (InValue done tag p)) = []
whole_segments (Some (Closed done)) = done

-- The segments of an id's text: the id whose `id_text` it is (`SegmentsAreRead`). Of any other text
-- it means nothing.
unfoldable pub segments_of : List ℕ → List SegmentView
segments_of text = whole_segments (run step (Before []) text)

-- the text is that of an id within the limits, which has `segment_count` segments
pub record IsTextOfId (text : List ℕ) (segment_count : ℕ) : Type 0 where
  pub id : IsId (segments_of text)
  pub spells : text ≡ id_text (segments_of text)
  pub fits : FitsLimits (segments_of text)
  pub counted : segment_count ≡ length (segments_of text)
