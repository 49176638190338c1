-- What an id keeps.
use Rattle.std.specs.Prelude.{◌≡◌, ℕ, List}
use Rattle.tk_ids.specs.declared.id_fields.IdFields.{IdFields}
use Rattle.tk_ids.specs.declared.id_fields.IdFields.TheVariants.{Plain, Escaped}
use Rattle.tk_ids.specs.IdSegments.{segments_of, IsTextOfId}
use Rattle.tk_ids.specs.PlainText.{plain_text}

-- the id's text
abbrev pub kept_text : IdFields → List ℕ
kept_text (Plain segment_count text) = text
kept_text (Escaped fields) = fields.value.text

-- its text without escapes
abbrev pub kept_plain_text : IdFields → List ℕ
kept_plain_text (Plain segment_count text) = text
kept_plain_text (Escaped fields) = fields.value.plain

-- how many segments it has
abbrev pub kept_count : IdFields → ℕ
kept_count (Plain segment_count text) = segment_count
kept_count (Escaped fields) = fields.value.segment_count

-- what is kept is that of an id within the limits
pub record AreKept (fields : IdFields) : Type 0 where
  pub text : IsTextOfId (kept_text fields) (kept_count fields)
  pub plain : kept_plain_text fields ≡ plain_text (segments_of (kept_text fields))
