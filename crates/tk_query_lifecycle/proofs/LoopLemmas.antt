-- The events of a record, one after the other.
use Rattle.std.proofs.Common.{◌≡◌, ℕ, ◌+◌, ◌<◌, ◌≤◌, ◌⊎◌, ⊎_elim, List, length, Option, Some, None, is_some, true, sym, ap, ◌∙◌, subst, arith}
use Rattle.std.specs.Prelude.{slice_get, IfSome}
use Rattle.std.proofs.lemmas.Bool.{true≢false}
use Rattle.std.proofs.lemmas.List.{take_all}
use Rattle.std.proofs.lemmas.Option.{same_Some}
use Rattle.tk_events.specs.declared.events.Entry.{Entry}
use Rattle.tk_record.specs.declared.records.EntryView.{EntryView}
use Rattle.tk_record.specs.Record.{IsViewOf}
use Rattle.tk_record.specs.Recorded.{Recorded}
use Rattle.tk_record.specs.Record.{entry_of_view}
use Rattle.tk_record.proofs.RemainingEntries.{shown_entry}
use Rattle.tk_query_lifecycle.specs.Lifecycle.{BreaksNone, NoneBreaks, IsInOrder, IsLifecycle, first_entries}
use Rattle.tk_query_lifecycle.specs.steps.Progress.{IsFirstOfNeverRun, IsFirstOfRuns, IsProgress, IsTaken, next_event}
use Rattle.tk_query_lifecycle.specs.declared.lifecycle_rules.Lifecycle.TheVariants.{Kept, Unfinished, NeverRan}
use Rattle.tk_query_lifecycle.specs.declared.key_states.KeyState.{KeyState}
use Rattle.tk_query_lifecycle.proofs.FirstEntries.{first_more}
use Rattle.tk_query_lifecycle.proofs.ListLemmas.{there}

-- the first n events break no rule, and this is what is known after them
pub record AreFollowed (r : Recorded) (n : ℕ) (states : List KeyState) (ids : List (List ℕ × ℕ)) : Type 0 where
  pub known : IsProgress (first_entries n r) states ids
  pub none : NoneBreaks r n

-- the view at a position shows the event there
pub stands_at : (r : Recorded) (p : ℕ) (v : EntryView) → p < length r.entries → IfSome (slice_get r.entries p) (IsViewOf v) → slice_get r.entries p ≡ Some (entry_of_view v)
stands_at r p v within h =
    let e = there r.entries p within in
    e.1 ∙ ap (λ x. Some x) (sym (shown_entry v e.0 (subst (λ o. IfSome o (IsViewOf v)) e.1 h)))

pub followed_more : (r : Recorded) (p : ℕ) (e : Entry) (old new : List KeyState) (ids noted : List (List ℕ × ℕ)) → AreFollowed r p old ids → slice_get r.entries p ≡ Some e → IsTaken (next_event (first_entries p r) e) new noted None → AreFollowed r (p + 1) new noted
followed_more r p e old new ids noted h at t = record {
  known = subst (λ x. IsProgress x new noted) (first_more r p e at) t.1;
  none = λ q d lt is. ⊎_elim {C = BreaksNone (first_entries q r) d}
      (λ (before : q < p). h.none q d before is)
      (λ (here : q ≡ p). subst (λ x. BreaksNone (first_entries q r) x) (same_Some e d (sym at ∙ ap (slice_get r.entries) (sym here) ∙ is))
      (subst (λ n. BreaksNone (first_entries n r) e) (sym here) t.0))
      (below_or_at q p lt);
}
  where
    below_or_at : (a b : ℕ) → a < b + 1 → (a < b) ⊎ (a ≡ b)
    below_or_at a b lt = grind (arith, lt)

-- the first entries, where that is all of them
all_first : (r : Recorded) (n : ℕ) → length r.entries ≤ n → first_entries n r ≡ r
all_first r n le = ap (λ l. let x : Recorded = record { table = r.table; entries = l } in x) (take_all n r.entries le)

module _ (r : Recorded) (n : ℕ) (states : List KeyState) (ids : List (List ℕ × ℕ)) (h : AreFollowed r n states ids) (all : length r.entries ≤ n) where
  pub known_at_end : IsProgress r states ids
  known_at_end = subst (λ x. IsProgress x states ids) (all_first r n all) h.known

  none_at_end : NoneBreaks r (length r.entries)
  none_at_end = λ q e lt at. h.none q e (omega (arith, lt, all)) at

  pub unfinished : (first : Option ℕ) (key : ℕ) → IsFirstOfRuns r first → first ≡ Some key → IsLifecycle r (Unfinished key)
  unfinished first key f is = let k = subst (IsFirstOfRuns r) is f in (none_at_end, k.0, k.1)

  in_order : (first : Option ℕ) → IsFirstOfRuns r first → first ≡ None → IsInOrder r
  in_order first f is = record { none = none_at_end; at_rest = subst (IsFirstOfRuns r) is f }

  pub never_ran : (first never : Option ℕ) (key : ℕ) → IsFirstOfRuns r first → first ≡ None → IsFirstOfNeverRun r never → never ≡ Some key → IsLifecycle r (NeverRan key)
  never_ran first never key f is h at = (in_order first f is, subst (IsFirstOfNeverRun r) at h)

  pub kept : (first never : Option ℕ) → IsFirstOfRuns r first → first ≡ None → IsFirstOfNeverRun r never → never ≡ None → IsLifecycle r Kept
  kept first never f is h at = (in_order first f is, subst (IsFirstOfNeverRun r) at h)

-- where there is no event, none stands at or after the position
pub past_all : {A : Type 0} (o : Option A) (p n : ℕ) → o ≡ None → (p < n → is_some o ≡ true) → n ≤ p
past_all o p n is some = ⊎_elim {C = n ≤ p}
    (λ (lt : p < n). absurd (true≢false (sym (subst (λ x. is_some x ≡ true) is (some lt)))))
    (λ (le : n ≤ p). le)
    (cases_le p n)
  where
    cases_le : (a b : ℕ) → (a < b) ⊎ (b ≤ a)
    cases_le a b = grind arith
