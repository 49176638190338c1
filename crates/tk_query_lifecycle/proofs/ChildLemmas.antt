-- What one more event does to the states of keys.
use Rattle.std.proofs.Common.{◌≡◌, ℕ, ◌+◌, ◌≤◌, Bool, true, false, ◌&&◌, ◌||◌, List, [], ◌∷◌, ◌++◌, length, Some, None, refl, sym, ap, ◌∙◌, subst, arith, eqb-true}
use Rattle.std.specs.Prelude.{◌==◌, if◌then◌else◌}
use Rattle.std.specs.List.{sum_by}
use Rattle.std.proofs.lemmas.Bool.{true≢false}
use Rattle.std.proofs.lemmas.List.{length-append}
use Rattle.std.proofs.lemmas.Option.{same_Some}
use Rattle.tk_ids.specs.IdText.{SegmentView, parent_of}
use Rattle.tk_events.specs.declared.kinds.Kind.{Kind}
use Rattle.tk_events.specs.declared.kinds.Kind.TheVariants.{Dynamic, Skipped, Started, Finished, Reporting, File}
use Rattle.tk_events.specs.declared.events.Entry.{Entry}
use Rattle.tk_events.specs.declared.statuses.Status.TheVariants.{Successful}
use Rattle.tk_record.specs.Entries.{of_status, with_entry}
use Rattle.tk_record.specs.Recorded.{Recorded}
use Rattle.tk_query_lifecycle.specs.Lifecycle.{HasId, has_run}
use Rattle.tk_query_lifecycle.specs.steps.KeyStates.{state_of, is_key, is_running, running_child, phase_after, advanced, refusal, children_after, counted, ArePut, IsCounted}
use Rattle.tk_query_lifecycle.specs.steps.Progress.{AreAdvanced, AreStates, IsKnownParent, IsParent, IsParentOf, IsPhase, has_success}
use Rattle.tk_query_lifecycle.specs.declared.key_states.KeyState.{KeyState}
use Rattle.tk_query_lifecycle.specs.declared.key_states.Phase.{Phase}
use Rattle.tk_query_lifecycle.specs.declared.key_states.Phase.TheVariants.{Idle, Running, Ended}
use Rattle.tk_query_lifecycle.specs.declared.key_states.Parent.{Parent}
use Rattle.tk_query_lifecycle.specs.declared.key_states.Parent.TheVariants.{Unsought, Root, Key}
use Rattle.tk_query_lifecycle.proofs.FirstEntries.{has_id_more}
use Rattle.tk_query_lifecycle.proofs.PhaseLemmas.{phase_same, phase_other, run_other, success_other, success_same}

abbrev one_if : Bool → ℕ
one_if b = if b then 1 else 0

-- 1 for a running child of the key
abbrev pub share : ℕ → Phase → Parent → ℕ
share key phase parent = one_if (is_running phase && is_key key parent)

-- a key that hasn't run is not running
pub not_running : (es : List Entry) (key : ℕ) (phase : Phase) → IsPhase es key phase → has_run key es ≡ false → is_running phase ≡ false
not_running es key Idle h none = refl
not_running es key Running h none = absurd (true≢false (sym h.1 ∙ none))
not_running es key Ended h none = refl

-- the parent that was known and the one that is found give one share
known_share : (r : Recorded) (es : List Entry) (id : List SegmentView) (key of_key : ℕ) (phase : Phase) (before parent : Parent) → r.entries ≡ es → IsPhase es of_key phase → IsParentOf r of_key before → IsKnownParent r id before (Some parent)
    → share key phase before ≡ share key phase parent
known_share r es id key of_key phase Unsought parent same h none found =
    let rest = not_running es of_key phase h (ap (has_run of_key) (sym same) ∙ none) in
    ap (λ b. one_if (b && is_key key Unsought)) rest ∙ sym (ap (λ b. one_if (b && is_key key parent)) rest)
known_share r es id key of_key phase Root parent same h is found = ap (share key phase) (sym (same_Some parent Root found))
known_share r es id key of_key phase (Key p) parent same h is found = ap (share key phase) (sym (same_Some parent (Key p) found))

-- what the event counts at a parent is what the states' sum gains or loses
counts : (kind : Kind) (s : KeyState) (phase : Phase) (n old new : ℕ) (own : Bool) → s.phase ≡ phase → refusal kind s ≡ None
    → new + one_if (is_running phase && own) ≡ old + one_if (is_running (phase_after kind phase) && own)
    → n ≡ old → (if own then children_after kind n else n) ≡ new
counts kind s phase n old new false is none sums e = plain kind phase sums
  where
    no_share : (b : Bool) → one_if (b && false) ≡ 0
    no_share true = refl
    no_share false = refl

    plain : (kind : Kind) (phase : Phase) → new + one_if (is_running phase && false) ≡ old + one_if (is_running (phase_after kind phase) && false) → n ≡ new
    plain kind phase sums = let a = no_share (is_running phase) in let b = no_share (is_running (phase_after kind phase)) in omega (arith, a, b, sums, e)
counts Started s Idle n old new true is none sums e = omega (arith, sums, e)
counts Started s Running n old new true is none sums e = cc
counts Started s Ended n old new true is none sums e = cc
counts Skipped s Idle n old new true is none sums e = omega (arith, sums, e)
counts Skipped s Running n old new true is none sums e = cc
counts Skipped s Ended n old new true is none sums e = cc
counts Finished s Idle n old new true is none sums e = cc
counts Finished s Running n old new true is none sums e = omega (arith, sums, e)
counts Finished s Ended n old new true is none sums e = cc
counts Dynamic s phase n old new true is none sums e = omega (arith, sums, e)
counts Reporting s phase n old new true is none sums e = omega (arith, sums, e)
counts File s phase n old new true is none sums e = omega (arith, sums, e)

module _ (past : Recorded) (e : Entry) (id : List SegmentView) (states new : List KeyState) (parent : Parent)
    (are : AreStates past states) (its : HasId (with_entry past e) e.event.key id) (is_parent : IsParent past id parent)
    (known : IsKnownParent past id (state_of states e.event.key).parent (Some parent))
    (none : refusal e.event.kind (state_of states e.event.key) ≡ None) where
  abbrev own : KeyState
  own = state_of states e.event.key

  abbrev next : KeyState
  next = advanced e parent own

  -- the states between: the event's key has its new state
  between_sums : (mid : List KeyState) → ArePut states mid e.event.key next → (k : ℕ) → sum_by (running_child k) mid + share k own.phase parent ≡ sum_by (running_child k) states + share k (phase_after e.event.kind own.phase) parent
  between_sums mid put k =
      let s = put.sums (running_child k) refl in
      let same = known_share past past.entries id k e.event.key own.phase own.parent parent refl (are.phases e.event.key) (are.parents e.event.key) known in
      omega (arith, s, same)

  more_parent : (p : Parent) → IsParent past id p → IsParent (with_entry past e) id p
  more_parent Unsought h = h
  more_parent Root h = h
  more_parent (Key p) h = (h.0, has_id_more past e p (parent_of id) h.1)

  more_parent_of : (k : ℕ) (p : Parent) → (e.event.key == k) ≡ false → IsParentOf past k p → IsParentOf (with_entry past e) k p
  more_parent_of k Unsought other h = run_other past.entries e k other ∙ h
  more_parent_of k Root other h = (h.0, has_id_more past e k h.0 h.1, h.2)
  more_parent_of k (Key p) other h = (h.0, has_id_more past e k h.0 h.1, (h.2.0, has_id_more past e p (parent_of h.0) h.2.1))

  own_parent : (p : Parent) → IsParent past id p → IsParentOf (with_entry past e) e.event.key p
  own_parent Unsought h = absurd h
  own_parent Root h = (id, its, h)
  own_parent (Key p) h = (id, its, (h.0, has_id_more past e p (parent_of id) h.1))

  -- the phase and the parent of each key after the event
  abbrev IsAfter : ℕ → KeyState → Type 0
  IsAfter k s = IsPhase (past.entries ++ e ∷ []) k s.phase × IsParentOf (with_entry past e) k s.parent × (s.succeeded ≡ has_success k (past.entries ++ e ∷ []))

  after_at : (k : ℕ) (same : Bool) → (e.event.key == k) ≡ same → IsAfter k (if same then next else state_of states k)
  after_at k true same = subst (λ j. IsAfter j next) (eqb-true e.event.key k same) (
    phase_same past.entries e own none (are.phases e.event.key),
    own_parent parent is_parent,
    ap (λ b. b || of_status Successful e) (are.successes e.event.key) ∙ sym (success_same past.entries e),
  )
  after_at k false other = (
    phase_other past.entries e k (state_of states k).phase other (are.phases k),
    more_parent_of k (state_of states k).parent other (are.parents k),
    are.successes k ∙ sym (success_other past.entries e k other),
  )

  between_at : (mid : List KeyState) → ArePut states mid e.event.key next → (k : ℕ) → IsAfter k (state_of mid k)
  between_at mid put k = subst (IsAfter k) (sym (put.at k)) (after_at k (e.event.key == k) refl)

  children_between : (mid : List KeyState) → ArePut states mid e.event.key next → (k : ℕ) → (state_of mid k).running_children ≡ (state_of states k).running_children
  children_between mid put k = ap (λ (s : KeyState). s.running_children) (put.at k) ∙ by (e.event.key == k) refl
    where
      by : (same : Bool) → (e.event.key == k) ≡ same → (if same then next else state_of states k).running_children ≡ (state_of states k).running_children
      by true same = ap (λ j. (state_of states j).running_children) (eqb-true e.event.key k same)
      by false other = refl

  -- the parent's number of running children was changed, and nothing else
  counted_at : (mid : List KeyState) (p : ℕ) → ArePut mid new p (counted e.event.kind (state_of mid p)) → (k : ℕ) → IsAfter k (state_of mid k) → IsAfter k (state_of new k)
  counted_at mid p put k h = subst (IsAfter k) (sym (put.at k)) (by (p == k) refl)
    where
      by : (same : Bool) → (p == k) ≡ same → IsAfter k (if same then counted e.event.kind (state_of mid p) else state_of mid k)
      by true same = subst (λ j. IsAfter k (counted e.event.kind (state_of mid j))) (sym (eqb-true p k same)) (h.0, h.1, h.2)
      by false other = h

  after_all : (mid : List KeyState) (p : Parent) → ArePut states mid e.event.key next → IsCounted e.event.kind p mid new → (k : ℕ) → IsAfter k (state_of new k)
  after_all mid Unsought put count k = subst (λ l. IsAfter k (state_of l k)) (sym count) (between_at mid put k)
  after_all mid Root put count k = subst (λ l. IsAfter k (state_of l k)) (sym count) (between_at mid put k)
  after_all mid (Key p) put count k = counted_at mid p count k (between_at mid put k)

  -- a sum of shares doesn't see the numbers of running children
  same_sum : (mid : List KeyState) (p : ℕ) → ArePut mid new p (counted e.event.kind (state_of mid p)) → (k : ℕ) → sum_by (running_child k) new ≡ sum_by (running_child k) mid
  same_sum mid p put k = let s = put.sums (running_child k) refl in omega (arith, s)

  own_key : (p k : ℕ) → is_key k (Key p) ≡ (p == k)
  own_key p k = refl

  children_at : (mid : List KeyState) (p : Parent) → parent ≡ p → ArePut states mid e.event.key next → IsCounted e.event.kind p mid new → (k : ℕ) → (state_of new k).running_children ≡ sum_by (running_child k) new
  children_at mid Unsought is put count k = absurd (subst (IsParent past id) is is_parent)
  children_at mid Root is put count k =
      ap (λ l. (state_of l k).running_children) count ∙ children_between mid put k
      ∙ counts e.event.kind own own.phase (state_of states k).running_children (sum_by (running_child k) states) (sum_by (running_child k) mid) false refl none
      (ap (λ q. sum_by (running_child k) mid + share k own.phase q) (sym is) ∙ between_sums mid put k ∙ ap (λ q. sum_by (running_child k) states + share k (phase_after e.event.kind own.phase) q) is) (are.children k)
      ∙ ap (sum_by (running_child k)) (sym count)
  children_at mid (Key p) is put count k =
      ap (λ (s : KeyState). s.running_children) (count.at k) ∙ at (p == k) refl
      ∙ counts e.event.kind own own.phase (state_of states k).running_children (sum_by (running_child k) states) (sum_by (running_child k) mid) (p == k) refl none
      (ap (λ q. sum_by (running_child k) mid + share k own.phase q) (sym is) ∙ between_sums mid put k ∙ ap (λ q. sum_by (running_child k) states + share k (phase_after e.event.kind own.phase) q) is) (are.children k)
      ∙ sym (same_sum mid p count k)
    where
      at : (same : Bool) → (p == k) ≡ same → (if same then counted e.event.kind (state_of mid p) else state_of mid k).running_children ≡ (if same then children_after e.event.kind (state_of states k).running_children else (state_of states k).running_children)
      at true same = ap (λ j. children_after e.event.kind (state_of mid j).running_children) (eqb-true p k same) ∙ ap (children_after e.event.kind) (children_between mid put k)
      at false other = children_between mid put k

  -- at most one child more runs
  few_at : (mid : List KeyState) (p : Parent) → ArePut states mid e.event.key next → IsCounted e.event.kind p mid new → (k : ℕ) → (state_of new k).running_children ≤ length (past.entries ++ e ∷ [])
  few_at mid p put count k = let before = are.few_children k in let long = length-append past.entries (e ∷ []) in let one = one_more p count in omega (arith, before, long, one)
    where
      one_more : (p : Parent) → IsCounted e.event.kind p mid new → (state_of new k).running_children ≤ (state_of states k).running_children + 1
      one_more Unsought count = let same = ap (λ l. (state_of l k).running_children) count ∙ children_between mid put k in omega (arith, same)
      one_more Root count = let same = ap (λ l. (state_of l k).running_children) count ∙ children_between mid put k in omega (arith, same)
      one_more (Key p) count = let same = ap (λ (s : KeyState). s.running_children) (count.at k) in let more = by (p == k) refl in omega (arith, same, more)
        where
          after : (kind : Kind) (n : ℕ) → children_after kind n ≤ n + 1
          after Started n = omega arith
          after Finished n = omega arith
          after Skipped n = omega arith
          after Dynamic n = omega arith
          after Reporting n = omega arith
          after File n = omega arith

          by : (same : Bool) → (p == k) ≡ same → (if same then counted e.event.kind (state_of mid p) else state_of mid k).running_children ≤ (state_of states k).running_children + 1
          by true same =
              let key = ap (λ j. (state_of mid j).running_children) (eqb-true p k same) ∙ children_between mid put k in
              let more = after e.event.kind (state_of mid p).running_children in
              omega (arith, key, more)
          by false other = let same = children_between mid put k in omega (arith, same)

  pub states_more : AreAdvanced states new e parent → AreStates (with_entry past e) new
  states_more adv = record {
    phases = λ k. (after_all adv.0 parent adv.1 adv.2 k).0;
    parents = λ k. (after_all adv.0 parent adv.1 adv.2 k).1;
    successes = λ k. (after_all adv.0 parent adv.1 adv.2 k).2;
    children = λ k. children_at adv.0 parent refl adv.1 adv.2 k;
    few_children = λ k. few_at adv.0 parent adv.1 adv.2 k;
  }
