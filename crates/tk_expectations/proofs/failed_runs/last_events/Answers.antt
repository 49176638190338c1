use Rattle.std.proofs.Common.{◌≡◌, ◌<◌, ◌≤◌, ◌-◌, ℕ, List, length, get_or, drop, refl, ap, ap₂, ◌∙◌, arith}
use Rattle.tk_record.specs.Recorded.{Recorded}
use Rattle.tk_record.specs.Selections.{PositionedEntry, Selected, intersected, positioned}
use Rattle.tk_expectations.proofs.LastEvents.{last_by_column}
use Rattle.tk_expectations.proofs.failed_runs.last_events.Goals as goal

-- the events of a record that are kept
abbrev selected_of : Recorded → List PositionedEntry → Selected
selected_of r kept = record { recorded = r; kept = kept }

pub returns : goal.returns
returns c =
    let r = c.args.record.now in
    let column = c.deref.result.now in
    let first = c.saturating_sub-first.result in
    let zeros = c.in_ok-resize.ensures in
    let ones = c.in_ok-resize-2.ensures in
    let at : (i : ℕ) → get_or column i 0 ≡ get_or c.resize-2.new.self.items i 0 =
    λ i. ap (λ (l : List ℕ). get_or l i 0) c.deref.ensures.value in
    let below : (i : ℕ) → i < first → get_or column i 0 ≡ 0 =
    λ i low. at i ∙ ones.by_index.0 i 0 (omega arith) (omega arith)
    ∙ zeros.by_index.1 i 0 refl (omega arith) low in
    let from : (i : ℕ) → first ≤ i → i < length r.entries → get_or column i 0 ≡ 1 =
    λ i low high. at i ∙ ones.by_index.1 i 0 refl (omega arith) (omega arith) in
    let first_is : first ≡ length r.entries - 20 =
    c.saturating_sub-first.ensures ∙ ap (λ count. count - 20) c.len.ensures.value in
    c.intersect-2.ensures
    ∙ ap₂ intersected c.in_ok-flags.ensures c.in_ok-all.ensures
    ∙ ap (selected_of r)
    (last_by_column column first r.entries below from
    ∙ ap (λ k. drop k (positioned r.entries)) first_is)
