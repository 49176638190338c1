-- Segments that are lent out of an id.
use Rattle.std.specs.Prelude.{◌≡◌, ℕ, List, length}
use Rattle.std.specs.List.{AllByRecursion}
use Rattle.tk_ids.specs.IdText.{IsSegment, id_text}
use Rattle.tk_ids.specs.IdSegments.{segments_of}
use Rattle.tk_ids.specs.PlainText.{plain_text}

-- these are the text of `count` segments and their text without escapes
pub record AreTextsOf (text plain : List ℕ) (count : ℕ) : Type 0 where
  pub segments : AllByRecursion IsSegment (segments_of text)
  pub spells : text ≡ id_text (segments_of text)
  pub spells_plain : plain ≡ plain_text (segments_of text)
  pub counted : count ≡ length (segments_of text)
