-- A report, from its parts.
use Rattle.std.proofs.Common.{◌≡◌, ◌<◌, ◌+◌, ℕ, List, [], ◌++◌, length, get_or, take, refl, sym, ap, ap₂, ◌∙◌}
use Rattle.std.specs.Prelude.{Option, Result, Ok, Err, OnErr}
use Rattle.std.proofs.KnownBytes.{Appends-nil}
use Rattle.tk_streams.specs.Stream.{AppendsPrefix}
use Rattle.std.specs.List.{flat_map}
use Rattle.std.proofs.lemmas.List.{flat_map_more}
use Rattle.tk_streams.specs.Pieces.{Adds, Outgoing}
use Rattle.tk_streams.proofs.PieceLemmas.{adds_as, adds_both}
use Rattle.tk_record_text.proofs.WritingLemmas.{taken_item}
use Rattle.tk_record.specs.declared.statistics.Statistics.{Statistics}
use Rattle.tk_record.specs.Recorded.{Recorded}
use Rattle.tk_record.specs.Selections.{Selected, all_of, events_of}
use Rattle.tk_record.specs.Statistics.{statistics_of}
use Rattle.tk_record.specs.StatisticTexts.{statistics_text}
use Rattle.tk_record.proofs.PickedEntries.{all_events}
use Rattle.tk_report_text.specs.Labels.{labels}
use Rattle.tk_report_text.specs.Reports.{id_lines, id_texts, report_of_record}
use Rattle.tk_report_text.specs.GroupedLines.{IdLines, id_with_lines}

-- one more id was added, with its lines
pub id_added : (a b c : Outgoing) (ids : List IdLines) (i : ℕ) (x : IdLines) → i < length ids → x ≡ get_or ids i x →
    Adds a b (flat_map id_with_lines (take i ids)) → Adds b c (id_with_lines x) → Adds a c (flat_map id_with_lines (take (i + 1) ids))
id_added a b c ids i x lt is before adds =
    let whole : flat_map id_with_lines (take i ids) ++ id_with_lines x ≡ flat_map id_with_lines (take (i + 1) ids) =
    flat_map_more id_with_lines [] (take i ids) x ∙ ap (flat_map id_with_lines) (sym (taken_item ids i x lt is)) in
    adds_as a c _ _ whole (adds_both a b c _ _ before adds)

pub report_is : (r : Recorded) (selected : Selected) (s : Statistics) (ids : List IdLines) (first second : List ℕ) →
    selected ≡ all_of r → s ≡ statistics_of (events_of selected) → flat_map id_with_lines ids ≡ flat_map (id_lines (labels r)) (id_texts (labels r)) →
    first ≡ [] → second ≡ first ++ statistics_text s → second ++ flat_map id_with_lines ids ≡ report_of_record r
report_is r selected s ids first second all s_is ids_are first_is second_is =
    let counted : s ≡ statistics_of r.entries = s_is ∙ ap (λ (x : Selected). statistics_of (events_of x)) all ∙ ap statistics_of (all_events 0 r.entries) in
    let prefix : second ≡ statistics_text (statistics_of r.entries) = second_is ∙ ap₂ (λ (t : List ℕ) (x : Statistics). t ++ statistics_text x) first_is counted in
    ap₂ (λ (a b : List ℕ). a ++ b) prefix ids_are

-- nothing was written
pub none_written : {X E : Type 0} (r : Result X E) (c : Option (List ℕ)) (text : List ℕ) → OnErr r (AppendsPrefix c c text)
none_written (Ok x) c text = tt
none_written (Err e) c text = ([], text, refl, Appends-nil c)
