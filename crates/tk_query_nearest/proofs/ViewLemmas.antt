-- The entry at a position, and the view of it.
use Rattle.std.proofs.Common.{◌≡◌, ℕ, ◌<◌, List, length, IfSome, sym, ap, ◌∙◌, subst}
use Rattle.std.specs.List.{slice_get}
use Rattle.tk_base.proofs.Lists.{get_below}
use Rattle.tk_events.specs.declared.events.Entry.{Entry}
use Rattle.tk_record.specs.Recorded.{Recorded}
use Rattle.tk_record.specs.Record.{entry_of_view, IsViewOf}
use Rattle.tk_record.specs.declared.records.EntryView.{EntryView}
use Rattle.tk_record.proofs.RemainingEntries.{shown_entry}
use Rattle.tk_query_conditions.specs.Cond.{Cond}
use Rattle.tk_query_nearest.specs.Parts.{distance}
use Rattle.tk_query_nearest.specs.Nearness.{distance_of}

pub view_there : (r : Recorded) (c : Cond) (es : List Entry) (i : ℕ) (v : EntryView)
    → i < length es → IfSome (slice_get es i) (IsViewOf v)
    → distance_of r c (slice_get es i) ≡ distance r c (entry_of_view v)
view_there r c es i v lt shows =
    let entry = get_below es i lt in
    let view = subst (λ o. IfSome o (IsViewOf v)) entry.1 shows in
    ap (distance_of r c) entry.1 ∙ ap (distance r c) (sym (shown_entry v entry.0 view))
