-- What private clauses and proofs alone name.
use Rattle.std.specs.Prelude.{◌≡◌, ◌<◌, ℕ, Bool, true, false, not, cond, nat_eq, List, [], ◌∷◌}
use Rattle.std.specs.Prelude.{◌++◌, ◌⊎◌, length, map, filter, Option, Some, bytes_eq, slice_get}
use Rattle.std.specs.List.{flat_map, AllByRecursion}
use Rattle.std.specs.List.Sorted.{IsPermutation, IsSortedByKey}
use Rattle.std.specs.Option.{unwrap_or}
use Rattle.std.specs.Ordering.{nat_cmp}
use Rattle.std.specs.Cmp.Lexicographic.{slice_cmp}
use Rattle.std.specs.Map.{lookup}
use Rattle.tk_ids.specs.IdText.{IsId, id_text}
use Rattle.tk_record.specs.Recorded.{Recorded}
use Rattle.tk_record.specs.declared.records.EntryView.{EntryView}
use Rattle.tk_record.specs.Lines.{blank, joined, tail}
use Rattle.tk_events.specs.Fields.{line_feed}
use Rattle.tk_report_text.specs.declared.grouping.LinesById.{LinesById}
use Rattle.tk_report_text.specs.Labels.{Label, name}
use Rattle.tk_report_text.specs.Reports.{label_line, labels_of_id}
use Rattle.tk_report_text.specs.GroupedLines.{IdLines}

-- the line of a tail: two blanks, the tail and a line feed
abbrev pub tail_line : List ℕ → List ℕ
tail_line t = blank ∷ blank ∷ t ++ line_feed ∷ []

-- whether there is no line
abbrev pub is_empty : List ℕ → Bool
is_empty [] = true
is_empty (_ ∷ _) = false

-- whether the id has a line
abbrev pub has_lines : IdLines → Bool
has_lines e = not (is_empty e.1)

-- the texts of ids
abbrev pub texts : List IdLines → List (List ℕ)
texts ids = map (λ e. e.0.now) ids

-- the text of the id at the index
abbrev pub IsAt : List IdLines → List ℕ → ℕ → Type 0
IsAt ids x i = slice_get (texts ids) i ≡ Some x

-- no two ids have one text
abbrev pub AreApart : List IdLines → Type 0
AreApart ids = (x : List ℕ) (i j : ℕ) → IsAt ids x i → IsAt ids x j → i ≡ j

-- the lines of the id with the text; none without such an id
abbrev pub lines_in : List IdLines → List ℕ → List ℕ
lines_in ids x = unwrap_or (lookup (λ k. bytes_eq x k.now) ids) []

-- the index of an id that isn't in the table
abbrev pub dynamic_index : LinesById → List ℕ → Option ℕ
dynamic_index kept x = lookup (λ k. bytes_eq x k.now) kept.dynamic_ids.entries

-- the text of the id of a key
abbrev pub text_of : Recorded → ℕ → List ℕ
text_of r key = id_text (name r key)

-- each id of the table is at its key, each other id at its index, and each dynamic key has that of
-- its id
pub record IsGrouped (r : Recorded) (kept : LinesById) : Type 0 where
  pub ids : AllByRecursion (λ d. IsId d.id) r.table
  pub apart : AreApart kept.ids.items
  pub table : (key : ℕ) → key < length r.table → IsAt kept.ids.items (text_of r key) key
  pub dynamic : (x : List ℕ) (i : ℕ) → dynamic_index kept x ≡ Some i → IsAt kept.ids.items x i
  pub all : (x : List ℕ) (i : ℕ) → IsAt kept.ids.items x i
      → (i < length r.table) ⊎ (dynamic_index kept x ≡ Some i)
  pub keys : (key i : ℕ) → lookup (nat_eq key) kept.dynamic_keys.entries ≡ Some i
      → IsAt kept.ids.items (text_of r key) i

-- the id with the text is at the index, and no id got a line
pub record IndexesId (r : Recorded) (old new : LinesById) (x : List ℕ) (i : ℕ) : Type 0 where
  pub grouped : IsGrouped r new
  pub index : IsAt new.ids.items x i
  pub lines : (y : List ℕ) → lines_in new.ids.items y ≡ lines_in old.ids.items y

-- the id of the event got its line
pub record AddsEvent (r : Recorded) (old new : LinesById) (v : EntryView) : Type 0 where
  pub grouped : IsGrouped r new
  pub lines : (x : List ℕ) → lines_in new.ids.items x
      ≡ cond (bytes_eq (text_of r v.key) x)
      (lines_in old.ids.items x ++ tail_line (joined (tail v.kind v.payload.now)))
      (lines_in old.ids.items x)

-- each id that has an event is there once, with its lines, and no other id has a line
pub record IsKept (ls : List Label) (ids : List IdLines) : Type 0 where
  pub apart : AreApart ids
  pub lines : (x : List ℕ) → lines_in ids x ≡ flat_map label_line (labels_of_id x ls)

-- the ids that have a line, in the order of their texts
pub record IsInOrder (ids sorted : List IdLines) : Type 0 where
  pub same : IsPermutation (filter has_lines ids) sorted
  pub ordered : IsSortedByKey (λ e. e.0.now) (slice_cmp nat_cmp) sorted
