-- What holds of reports alone.
use Rattle.std.specs.Prelude.{◌≡◌, ℕ, List, All, map}
use Rattle.tk_events.specs.declared.events.Entry.{Entry}
use Rattle.tk_record.specs.Recorded.{Recorded}
use Rattle.tk_record.specs.Lines.{tail, joined}
use Rattle.tk_record_text.specs.Spelling.{HasTail}
use Rattle.tk_record_text.specs.Text.{HasText}
use Rattle.tk_report_text.specs.Labels.{Label, labels}
use Rattle.tk_report_text.specs.Reports.{labels_of_id, report_of_record}

-- the tails of the events of the id that has this text, in the record's order
abbrev pub tails_of_id : List ℕ → Recorded → List (List ℕ)
tails_of_id x r = map (λ (l : Label). joined (tail l.kind l.payload)) (labels_of_id x (labels r))

-- each event of the record has a tail
abbrev pub EventsHaveTails : Recorded → Type 0
EventsHaveTails r = All (λ (e : Entry). HasTail e.event.kind e.event.payload) r.entries

-- in a record that has a text each event has a tail
abbrev pub TextHasTails : Type 0
TextHasTails = (r : Recorded) → HasText r → EventsHaveTails r

-- two records with the same tails for each id, each in its order, have one report, whatever their
-- workers, keys, stamps and the order of their ids
abbrev pub ReportIsOfTails : Type 0
ReportIsOfTails = (r s : Recorded) → EventsHaveTails r → EventsHaveTails s
    → ((x : List ℕ) → tails_of_id x r ≡ tails_of_id x s)
    → report_of_record r ≡ report_of_record s
