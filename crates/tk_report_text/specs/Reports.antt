-- The text of a report.
use Rattle.std.specs.Prelude.{ℕ, List, [], ◌∷◌, ◌++◌, filter, bytes_eq}
use Rattle.std.specs.List.{flat_map, fold}
use Rattle.std.specs.Ordering.{nat_cmp}
use Rattle.std.specs.Cmp.Lexicographic.{slice_cmp}
use Rattle.std.specs.BTreeSet.{insert_key}
use Rattle.tk_ids.specs.IdText.{id_text}
use Rattle.tk_record.specs.declared.statistics.Statistics.{Statistics}
use Rattle.tk_record.specs.Recorded.{Recorded}
use Rattle.tk_record.specs.Statistics.{statistics_of}
use Rattle.tk_record.specs.Lines.{blank, tail, joined}
use Rattle.tk_events.specs.Fields.{field_text, line_feed}
use Rattle.tk_record.specs.StatisticTexts.{statistics_text}
use Rattle.tk_report_text.specs.Labels.{Label, labels}

-- the texts of the ids that have an event, each once, in the order of their bytes
abbrev pub id_texts : List Label → List (List ℕ)
id_texts ls = fold (λ texts l. insert_key (slice_cmp nat_cmp) texts (id_text l.id)) [] ls

-- the labels of the id that has this text
abbrev pub labels_of_id : List ℕ → List Label → List Label
labels_of_id x ls = filter (λ l. bytes_eq (id_text l.id) x) ls

-- the line of an event: two blanks and the tail of its line in the record's text
abbrev pub label_line : Label → List ℕ
label_line l = blank ∷ blank ∷ joined (tail l.kind l.payload) ++ line_feed ∷ []

-- the line of an id, and a line for each of its events
abbrev pub id_lines : List Label → List ℕ → List ℕ
id_lines ls x = field_text x ++ line_feed ∷ flat_map label_line (labels_of_id x ls)

-- the statistics, and then each id with its events
abbrev pub report : Statistics → List Label → List ℕ
report s ls = statistics_text s ++ flat_map (id_lines ls) (id_texts ls)

-- the report of a record
abbrev pub report_of_record : Recorded → List ℕ
report_of_record r = report (statistics_of r.entries) (labels r)
