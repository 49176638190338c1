-- The explanation of statistics, of which numbers are expected.
use Rattle.std.specs.Prelude.{◌≡◌, ℕ, zero, suc, Bool, List, [], ◌∷◌, ◌++◌, codes, drop, length}
use Rattle.std.specs.Prelude.{take, ◌==◌}
use Rattle.std.specs.List.{flat_map}
use Rattle.tk_record.specs.Selections.{Selected, events_of, filtered_by, positions_of, selects}
use Rattle.tk_record.specs.Statistics.{mismatches, statistics_of}
use Rattle.tk_record.specs.declared.statistics.Expected.{Expected}
use Rattle.tk_record.specs.declared.statistics.Mismatch.{Mismatch}
use Rattle.tk_record.specs.StatisticTexts.{mismatch_words, statistics_text}
use Rattle.tk_explanations.specs.Rows.{rows_text}
use Rattle.tk_explanations.specs.declared.rows.Note.TheVariants.{Nothing}
use Rattle.tk_explanations.specs.declared.rows.Row.{Row}
use Rattle.tk_explanations.specs.declared.rows.Row.TheVariants.{Line, Event, More}
use Rattle.tk_explanations.specs.declared.statistics.TheConstants.{MAX_COUNTED_ROWS}

-- a statistic that differs from what was expected of it
abbrev pub mismatch_text : Mismatch → List ℕ
mismatch_text m = codes "mismatch " ++ mismatch_words m

-- the row of an event that was counted
abbrev pub counted_row : ℕ → List Row
counted_row position = Event position Nothing ∷ []

-- how many there are more, where there are some
abbrev pub more_rows : ℕ → List Row
more_rows zero = []
more_rows (suc n) = More (suc n) ∷ []

-- the first of the events at these positions, and how many there are more
abbrev pub counted_rows : List ℕ → List Row
counted_rows positions =
    flat_map counted_row (take MAX_COUNTED_ROWS positions)
    ++ more_rows (length (drop MAX_COUNTED_ROWS positions))

-- a mismatch, and the events that were counted under its name
unfoldable pub mismatch_rows : Selected → Mismatch → List Row
mismatch_rows asked m =
    Line (mismatch_text m)
    ∷ counted_rows (positions_of (filtered_by (selects m.selection asked.recorded) asked))

-- The statistics of the events, and below them each that differs with the events that were
-- counted. It is a yes where none differs.
abbrev pub ExplainsStatistics : Selected → Expected → Bool → List ℕ → Type 0
ExplainsStatistics asked expected is_yes text =
    let statistics = statistics_of (events_of asked) in
    let differing = mismatches expected statistics in
    (is_yes ≡ (length differing == 0))
    × (text
    ≡ statistics_text statistics
    ++ rows_text asked.recorded (flat_map (mismatch_rows asked) differing))
