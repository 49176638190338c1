-- What it means that a statistic is a count.
use Rattle.std.specs.Prelude.{◌≡◌, ℕ, count_by}
use Rattle.tk_record.specs.Selections.{Selected, events_of, selects}
use Rattle.tk_record.specs.declared.selections.Selection.{Selection}

-- the number beside the selection is how many of the events asked it picks
abbrev pub IsCount : Selected → Selection × ℕ → Type 0
IsCount asked row = row.1 ≡ count_by (selects row.0 asked.recorded) (events_of asked)
