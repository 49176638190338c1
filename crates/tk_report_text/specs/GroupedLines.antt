-- Ids with the lines of their events.
use Rattle.std.specs.Prelude.{ℕ, List, ◌∷◌, ◌++◌}
use Rattle.std.specs.Borrow.{Bor}
use Rattle.tk_events.specs.Fields.{field_text, line_feed}

-- the text of an id, borrowed from a record
abbrev pub BorrowedText : Type 0
BorrowedText = Bor (List ℕ)

-- an id, by its text, with its lines
abbrev pub IdLines : Type 0
IdLines = BorrowedText × List ℕ

-- an id and its lines, as the report has them
abbrev pub id_with_lines : IdLines → List ℕ
id_with_lines e = field_text e.0.now ++ line_feed ∷ e.1
