-- Descriptors as text.
use Rattle.std.specs.Prelude.{ℕ, List, [], ◌∷◌, ◌++◌, Option, Some, None}
use Rattle.tk_ids.specs.IdText.{id_text}
use Rattle.tk_ids.specs.declared.descriptors.Descriptor.{Descriptor}
use Rattle.tk_events.specs.Fields.{field_text}
use Rattle.tk_query.specs.AnswerTexts.{blank}

-- `"`
abbrev pub quotation_mark : ℕ
quotation_mark = 34

-- the id of a descriptor, as a field of a record's text
abbrev pub id_field : Option Descriptor → List ℕ
id_field None = []
id_field (Some d) = field_text (id_text d.id)

-- the display name of a descriptor in double quotes
abbrev pub quoted_name : Option Descriptor → List ℕ
quoted_name None = []
quoted_name (Some d) = quotation_mark ∷ field_text d.name ++ quotation_mark ∷ []

-- the id of a descriptor, a blank, and the display name in double quotes
abbrev pub descriptor_text : Option Descriptor → List ℕ
descriptor_text None = []
descriptor_text (Some d) = id_field (Some d) ++ blank ∷ quoted_name (Some d)
