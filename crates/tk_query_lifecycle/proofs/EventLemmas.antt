-- Which rule one more event breaks.
use Rattle.std.proofs.Common.{◌≡◌, ◌≢◌, ℕ, suc, ◌<◌, ◌≤◌, ◌⊎◌, ⊎_elim, Bool, true, false, ◌&&◌, ◌||◌, not, List, [], ◌∷◌, length, slice_get, Option, Some, None, MatchOption, Ok, refl, sym, ap, ◌∙◌, subst, arith, eq-eqb, eqb-true}
use Rattle.std.specs.Prelude.{◌==◌, if◌then◌else◌}
use Rattle.std.specs.List.{sum_by}
use Rattle.std.specs.Option.{IsSomeAnd}
use Rattle.std.proofs.lemmas.Bool.{true≢false}
use Rattle.std.proofs.lemmas.List.{get_or_past, length-take-le}
use Rattle.std.proofs.lemmas.List.Sums.{sum_by-cons, get_or-le-sum_by}
use Rattle.std.proofs.lemmas.Option.{same_Some, none-some, slice_get_within}
use Rattle.tk_ids.specs.IdText.{SegmentView, parent_of}
use Rattle.tk_events.specs.declared.kinds.Kind.{Kind}
use Rattle.tk_events.specs.declared.kinds.Kind.TheVariants.{Dynamic, Skipped, Started, Finished, Reporting, File}
use Rattle.tk_events.specs.declared.events.Entry.{Entry}
use Rattle.tk_events.specs.Event.{kind_code}
use Rattle.tk_record.specs.Entries.{of_kind, with_entry}
use Rattle.tk_record.specs.Record.{IsRecord}
use Rattle.tk_record.specs.Recorded.{Recorded}
use Rattle.tk_record.specs.declared.records.TheConstants.{MAX_ENTRIES}
use Rattle.tk_query_lifecycle.specs.Lifecycle.{HasId, has_event, has_run, runs, rank, Breaks, BreaksFirst, BreaksNone, KnowsId, KnowsNoParent, HasNoRunningParent, RunsAgain, EndsNothing, LeavesChild}
use Rattle.tk_query_lifecycle.specs.steps.KeyStates.{idle, state_of, is_key, is_running, running_child, refusal, start_refusal, finish_refusal, IsFirstRunning}
use Rattle.tk_query_lifecycle.specs.steps.Progress.{AreStates, IsProgress, IsChecked, IsFirstOfRuns, IsFound, IsKnownId, IsKnownParent, IsParent, IsParentOf, IsPhase, IsSought, is_at_rest, missing_parent, next_event}
use Rattle.tk_query_lifecycle.specs.declared.lifecycle_rules.LifecycleRule.{LifecycleRule}
use Rattle.tk_query_lifecycle.specs.declared.lifecycle_rules.LifecycleRule.TheVariants.{IdKnown, ParentUnknown, ParentNotRunning, RanAlready, NotRunning, ChildRunning}
use Rattle.tk_query_lifecycle.specs.declared.key_states.KeyState.{KeyState}
use Rattle.tk_query_lifecycle.specs.declared.key_states.Phase.{Phase}
use Rattle.tk_query_lifecycle.specs.declared.key_states.Phase.TheVariants.{Idle, Running, Ended}
use Rattle.tk_query_lifecycle.specs.declared.key_states.Parent.{Parent}
use Rattle.tk_query_lifecycle.specs.declared.key_states.Parent.TheVariants.{Unsought, Root, Key}
use Rattle.tk_ids.specs.Table.{AreDifferent}
use Rattle.tk_query_lifecycle.specs.Lifecycle.{first_entries}
use Rattle.tk_query_lifecycle.proofs.FirstEntries.{one_id, has_id_more}
use Rattle.tk_query_lifecycle.proofs.IdMapLemmas.{ids_first}

-- the phase says whether a key runs
pub phase_runs : (es : List Entry) (key : ℕ) (phase : Phase) → IsPhase es key phase → runs key es ≡ is_running phase
phase_runs es key Idle h = first_false (has_event Started key es) (has_event Skipped key es) (not (has_event Finished key es)) h.0
  where
    first_false : (a b c : Bool) → (a || b) ≡ false → (a && c) ≡ false
    first_false true b c e = absurd (true≢false e)
    first_false false b c e = refl
phase_runs es key Running h = h.0
phase_runs es key Ended h = h.0

pub first_of_runs : (r : Recorded) (states : List KeyState) (ids : List (List ℕ × ℕ)) (first : Option ℕ) → IsProgress r states ids → IsFirstRunning states first → IsFirstOfRuns r first
first_of_runs r states ids (Some key) p h = (
  phase_runs r.entries key (state_of states key).phase (p.states_are.phases key) ∙ h.0,
  λ lower lt. phase_runs r.entries lower (state_of states lower).phase (p.states_are.phases lower) ∙ h.1 lower lt,
)
first_of_runs r states ids None p h = λ key. phase_runs r.entries key (state_of states key).phase (p.states_are.phases key) ∙ h key

sought_key : (r : Recorded) (id above : List SegmentView) (parent : Option (List SegmentView)) (key : ℕ) → parent ≡ Some above → MatchOption parent (length id ≡ 1) (λ i. (1 < length id) × (i ≡ parent_of id)) → HasId r key above → IsSought r id (Some (Key key))
sought_key r id above parent key is h found =
    let m = subst (λ o. MatchOption o (length id ≡ 1) (λ i. (1 < length id) × (i ≡ parent_of id))) is h in
    (m.0, subst (HasId r key) m.1 found)

sought_none : (r : Recorded) (id above : List SegmentView) (parent : Option (List SegmentView)) → parent ≡ Some above → MatchOption parent (length id ≡ 1) (λ i. (1 < length id) × (i ≡ parent_of id)) → ((key : ℕ) → ¬ HasId r key above) → IsSought r id None
sought_none r id above parent is h unknown =
    let m = subst (λ o. MatchOption o (length id ≡ 1) (λ i. (1 < length id) × (i ≡ parent_of id))) is h in
    (m.0, λ key found. unknown key (subst (HasId r key) (sym m.1) found))

pub sought_found : (r : Recorded) (id above : List SegmentView) (parent : Option (List SegmentView)) (found : Option ℕ) (sought : Option Parent) → parent ≡ Some above → MatchOption parent (length id ≡ 1) (λ i. (1 < length id) × (i ≡ parent_of id))
    → IsFound r above found → MatchOption found (sought ≡ None) (λ key. IsSomeAnd sought (λ p. p ≡ Key key)) → IsSought r id sought
sought_found r id above parent (Some key) (Some p) is h its e = subst (λ q. IsSought r id (Some q)) (sym e) (sought_key r id above parent key is h its)
sought_found r id above parent (Some key) None is h its e = absurd e
sought_found r id above parent None sought is h its e = subst (IsSought r id) (sym e) (sought_none r id above parent is h its)

-- a running child of the key
child_is : (k : ℕ) (s : KeyState) (phase : Phase) (parent : Parent) → s.phase ≡ phase → s.parent ≡ parent → (let share : ℕ = if is_running phase && is_key k parent then 1 else 0 in share) ≢ 0 → (is_running s.phase ≡ true) × (s.parent ≡ Key k)
child_is k s Running (Key p) at is some = (ap is_running at, by (p == k) refl some)
  where
    by : (same : Bool) → (p == k) ≡ same → (let share : ℕ = if same then 1 else 0 in share) ≢ 0 → s.parent ≡ Key k
    by true same some = is ∙ ap Key (eqb-true p k same)
    by false same some = absurd (some refl)
child_is k s Running Unsought at is some = absurd (some refl)
child_is k s Running Root at is some = absurd (some refl)
child_is k s Idle parent at is some = absurd (some refl)
child_is k s Ended parent at is some = absurd (some refl)

some_child : (k : ℕ) (xs : List KeyState) → sum_by (running_child k) xs ≢ 0 → (i : ℕ) × (is_running (state_of xs i).phase ≡ true) × ((state_of xs i).parent ≡ Key k)
some_child k [] some = absurd (some refl)
some_child k (x ∷ xs) some = by (running_child k x == 0) refl (λ h. some_child k xs h)
  where
    by : (none : Bool) → (running_child k x == 0) ≡ none → (sum_by (running_child k) xs ≢ 0 → (i : ℕ) × (is_running (state_of xs i).phase ≡ true) × ((state_of xs i).parent ≡ Key k))
        → (i : ℕ) × (is_running (state_of (x ∷ xs) i).phase ≡ true) × ((state_of (x ∷ xs) i).parent ≡ Key k)
    by true none later =
        let zero_here = eqb-true (running_child k x) 0 none in
        let sums = sum_by-cons (running_child k) x xs in
        let rest = later (λ zero_rest. some (omega (arith, sums, zero_here, zero_rest))) in
        (suc rest.0, rest.1, rest.2)
    by false other later =
        let c = child_is k x x.phase x.parent refl refl (λ is. true≢false (sym (eq-eqb (running_child k x) 0 is) ∙ other)) in
        (0, c.0, c.1)

no_child : (k : ℕ) (xs : List KeyState) (i : ℕ) → sum_by (running_child k) xs ≡ 0 → is_running (state_of xs i).phase ≡ true → (state_of xs i).parent ≡ Key k → ⊥
no_child k xs i none running child = ⊎_elim {C = ⊥}
    (λ (within : i < length xs).
    let least = get_or-le-sum_by (running_child k) xs i idle within in
    let here = one in omega (arith, least, here, none))
    (λ (past : length xs ≤ i). true≢false (sym running ∙ ap (λ (s : KeyState). is_running s.phase) (get_or_past xs i idle past)))
    (cases_le i (length xs))
  where
    cases_le : (a b : ℕ) → (a < b) ⊎ (b ≤ a)
    cases_le a b = grind arith

    one : running_child k (state_of xs i) ≡ 1
    one = ap (λ b. if b && is_key k (state_of xs i).parent then (let n : ℕ = 1 in n) else 0) running ∙ ap (λ p. if is_key k p then (let n : ℕ = 1 in n) else 0) child
        ∙ ap (λ b. if b then (let n : ℕ = 1 in n) else 0) (eq-eqb k k refl)

module _ (past : Recorded) (e : Entry) (id : List SegmentView) (states : List KeyState) (ids : List (List ℕ × ℕ))
    (p : IsProgress past states ids) (its : HasId (with_entry past e) e.event.key id) where
  abbrev own : KeyState
  own = state_of states e.event.key

  own_phase : IsPhase past.entries e.event.key own.phase
  own_phase = p.states_are.phases e.event.key

  pub breaks_id : (key : ℕ) → of_kind Dynamic e ≡ true → HasId past key id → BreaksFirst past e IdKnown
  breaks_id key dynamic known = record {
    broken = record { dynamic = dynamic; id = id; registered = its; earlier = key; known = known };
    first = λ other lt. absurd (omega (arith, lt));
  }

  pub no_known_id : (of_kind Dynamic e ≡ true → (key : ℕ) → ¬ HasId past key id) → ¬ KnowsId past e
  no_known_id fresh h = fresh h.dynamic h.earlier (subst (HasId past h.earlier) (one_id (with_entry past e) e.event.key h.id id h.registered its) h.known)

  -- what was known of the parent, or is found now
  pub parent_found : (before : Parent) (found : Option Parent) → own.parent ≡ before → IsKnownParent past id before found → (parent : Parent) → found ≡ Some parent → ((i : List SegmentView) → HasId past e.event.key i → i ≡ id) → IsParent past id parent
  parent_found Unsought found is h parent some same = subst (IsSought past id) some h
  parent_found Root found is h parent some same =
      let of = subst (IsParentOf past e.event.key) is (p.states_are.parents e.event.key) in
      subst (IsParent past id) (same_Some Root parent (sym h ∙ some)) (ap (λ (l : List SegmentView). length l) (sym (same of.0 of.1)) ∙ of.2)
  parent_found (Key k) found is h parent some same =
      let of = subst (IsParentOf past e.event.key) is (p.states_are.parents e.event.key) in
      subst (IsParent past id) (same_Some (Key k) parent (sym h ∙ some)) (subst (λ i. IsParent past i (Key k)) (same of.0 of.1) of.2)

  first_parent : ¬ KnowsId past e → (other : LifecycleRule) → rank other < 1 → ¬ Breaks past e other
  first_parent fresh IdKnown lt = fresh
  first_parent fresh ParentUnknown lt = absurd (omega (arith, lt))
  first_parent fresh ParentNotRunning lt = absurd (omega (arith, lt))
  first_parent fresh RanAlready lt = absurd (omega (arith, lt))
  first_parent fresh NotRunning lt = absurd (omega (arith, lt))
  first_parent fresh ChildRunning lt = absurd (omega (arith, lt))

  first_running : ¬ KnowsId past e → ¬ KnowsNoParent past e → (other : LifecycleRule) → rank other < 2 → ¬ Breaks past e other
  first_running fresh parent IdKnown lt = fresh
  first_running fresh parent ParentUnknown lt = parent
  first_running fresh parent ParentNotRunning lt = absurd (omega (arith, lt))
  first_running fresh parent RanAlready lt = absurd (omega (arith, lt))
  first_running fresh parent NotRunning lt = absurd (omega (arith, lt))
  first_running fresh parent ChildRunning lt = absurd (omega (arith, lt))

  pub breaks_missing : (registers : Bool) → registers ≡ of_kind Dynamic e → ¬ KnowsId past e → IsSought past id None → BreaksFirst past e (missing_parent registers)
  breaks_missing true is fresh h = record {
    broken = record { dynamic = sym is; id = id; registered = its; below = h.0; unknown = h.1 };
    first = first_parent fresh;
  }
  breaks_missing false is fresh h = record {
    broken = record { id = id; its = its; below = h.0; at_rest = λ key known. absurd (h.1 key known) };
    first = first_running fresh (λ k. true≢false (sym k.dynamic ∙ sym is));
  }

  no_missing : (parent : Parent) → IsParent past id parent → ¬ KnowsNoParent past e
  no_missing Unsought h k = h
  no_missing Root h k = let same = ap (λ (l : List SegmentView). length l) (one_id (with_entry past e) e.event.key k.id id k.registered its) in let below = k.below in omega (arith, same, below, h)
  no_missing (Key q) h k = k.unknown q (subst (λ i. HasId past q (parent_of i)) (sym (one_id (with_entry past e) e.event.key k.id id k.registered its)) h.1)

  pub breaks_at_rest : (parent : Parent) → ¬ KnowsId past e → IsParent past id parent → is_at_rest states parent ≡ true → BreaksFirst past e ParentNotRunning
  breaks_at_rest Unsought fresh h rest = absurd h
  breaks_at_rest Root fresh h rest = absurd (true≢false (sym rest))
  breaks_at_rest (Key q) fresh h rest = record {
    broken = record {
      id = id;
      its = its;
      below = h.0;
      at_rest = λ key known.
          let same = p.ids_are.unique (parent_of id) key q known h.1 in
          phase_runs past.entries key (state_of states key).phase (p.states_are.phases key)
          ∙ ap (λ k. is_running (state_of states k).phase) same ∙ not_true (is_running (state_of states q).phase) rest;
    };
    first = first_running fresh (no_missing (Key q) h);
  }
    where
      not_true : (b : Bool) → not b ≡ true → b ≡ false
      not_true true e = absurd (true≢false (sym e))
      not_true false e = refl

  no_rest : (parent : Parent) → IsParent past id parent → is_at_rest states parent ≡ false → ¬ HasNoRunningParent past e
  no_rest Unsought h rest k = h
  no_rest Root h rest k = let same = ap (λ (l : List SegmentView). length l) (one_id (with_entry past e) e.event.key k.id id k.its its) in let below = k.below in omega (arith, same, below, h)
  no_rest (Key q) h rest k = true≢false (sym (not_false (is_running (state_of states q).phase) rest)
      ∙ sym (phase_runs past.entries q (state_of states q).phase (p.states_are.phases q))
      ∙ k.at_rest q (subst (λ i. HasId past q (parent_of i)) (sym (one_id (with_entry past e) e.event.key k.id id k.its its)) h.1))
    where
      not_false : (b : Bool) → not b ≡ false → b ≡ true
      not_false true e = refl
      not_false false e = absurd (true≢false e)

  begins_as : (kind : Kind) → e.event.kind ≡ kind → (of_kind Started e || of_kind Skipped e) ≡ ((kind_code kind == kind_code Started) || (kind_code kind == kind_code Skipped))
  begins_as kind at = ap (λ k. (kind_code k == kind_code Started) || (kind_code k == kind_code Skipped)) at

  ends_as : (kind : Kind) → e.event.kind ≡ kind → of_kind Finished e ≡ (kind_code kind == kind_code Finished)
  ends_as kind at = ap (λ k. kind_code k == kind_code Finished) at

  -- the rules before those of the key alone
  record ParentRuns : Type 0 where
    fresh : ¬ KnowsId past e
    parent : ¬ KnowsNoParent past e
    running : ¬ HasNoRunningParent past e

  first_again : ParentRuns → (other : LifecycleRule) → rank other < 3 → ¬ Breaks past e other
  first_again r IdKnown lt = r.fresh
  first_again r ParentUnknown lt = r.parent
  first_again r ParentNotRunning lt = r.running
  first_again r RanAlready lt = absurd (omega (arith, lt))
  first_again r NotRunning lt = absurd (omega (arith, lt))
  first_again r ChildRunning lt = absurd (omega (arith, lt))

  ends_no_begin : e.event.kind ≡ Finished → ¬ RunsAgain past e
  ends_no_begin at h = true≢false (sym h.begins ∙ begins_as Finished at)

  first_ending : ParentRuns → e.event.kind ≡ Finished → (other : LifecycleRule) → rank other < 4 → ¬ Breaks past e other
  first_ending r at IdKnown lt = r.fresh
  first_ending r at ParentUnknown lt = r.parent
  first_ending r at ParentNotRunning lt = r.running
  first_ending r at RanAlready lt = ends_no_begin at
  first_ending r at NotRunning lt = absurd (omega (arith, lt))
  first_ending r at ChildRunning lt = absurd (omega (arith, lt))

  first_child : ParentRuns → e.event.kind ≡ Finished → runs e.event.key past.entries ≡ true → (other : LifecycleRule) → rank other < 5 → ¬ Breaks past e other
  first_child r at running IdKnown lt = r.fresh
  first_child r at running ParentUnknown lt = r.parent
  first_child r at running ParentNotRunning lt = r.running
  first_child r at running RanAlready lt = ends_no_begin at
  first_child r at running NotRunning lt = λ h. true≢false (sym running ∙ h.at_rest)
  first_child r at running ChildRunning lt = absurd (omega (arith, lt))

  again : ParentRuns → (of_kind Started e || of_kind Skipped e) ≡ true → (phase : Phase) → IsPhase past.entries e.event.key phase → (rule : LifecycleRule) → start_refusal phase ≡ Some rule → BreaksFirst past e rule
  again r begins Idle h rule is = absurd (none-some rule is)
  again r begins Running h rule is = subst (BreaksFirst past e) (same_Some RanAlready rule is) (record { broken = record { begins = begins; ran = h.1 }; first = first_again r })
  again r begins Ended h rule is = subst (BreaksFirst past e) (same_Some RanAlready rule is) (record { broken = record { begins = begins; ran = h.1 }; first = first_again r })

  -- a child that runs
  left : e.event.kind ≡ Finished → own.running_children ≢ 0 → LeavesChild past e
  left at some =
      let child = some_child e.event.key states (λ none. some (p.states_are.children e.event.key ∙ none)) in
      let of = subst (IsParentOf past child.0) child.2 (p.states_are.parents child.0) in record {
        ends = ends_as Finished at;
        child = child.0;
        id = of.0;
        child_is = of.1;
        below = of.2.0;
        parent = of.2.1;
        running = phase_runs past.entries child.0 (state_of states child.0).phase (p.states_are.phases child.0) ∙ child.1;
      }

  ending : ParentRuns → e.event.kind ≡ Finished → (phase : Phase) (n : ℕ) → IsPhase past.entries e.event.key phase → own.running_children ≡ n → (rule : LifecycleRule) → finish_refusal phase n ≡ Some rule → BreaksFirst past e rule
  ending r at Idle n h is rule refused = subst (BreaksFirst past e) (same_Some NotRunning rule refused)
      (record { broken = record { ends = ends_as Finished at; at_rest = phase_runs past.entries e.event.key Idle h }; first = first_ending r at })
  ending r at Running n h is rule refused = by (n == 0) refl refused
    where
      by : (none : Bool) → (n == 0) ≡ none → (if none then None else Some ChildRunning) ≡ Some rule → BreaksFirst past e rule
      by true none refused = absurd (none-some rule refused)
      by false some refused = subst (BreaksFirst past e) (same_Some ChildRunning rule refused)
          (record { broken = left at (λ zero_children. true≢false (sym (eq-eqb n 0 (sym is ∙ zero_children)) ∙ some)); first = first_child r at h.0 })
  ending r at Ended n h is rule refused = subst (BreaksFirst past e) (same_Some NotRunning rule refused)
      (record { broken = record { ends = ends_as Finished at; at_rest = h.0 }; first = first_ending r at })

  refused : ParentRuns → (kind : Kind) → e.event.kind ≡ kind → (rule : LifecycleRule) → refusal kind own ≡ Some rule → BreaksFirst past e rule
  refused r Started at rule is = again r (begins_as Started at) own.phase own_phase rule is
  refused r Skipped at rule is = again r (begins_as Skipped at) own.phase own_phase rule is
  refused r Finished at rule is = ending r at own.phase own.running_children own_phase refl rule is
  refused r Dynamic at rule is = absurd (none-some rule is)
  refused r Reporting at rule is = absurd (none-some rule is)
  refused r File at rule is = absurd (none-some rule is)

  not_again : (kind : Kind) → e.event.kind ≡ kind → refusal kind own ≡ None → ¬ RunsAgain past e
  not_again Started at none h = idle_only own.phase own_phase none
    where
      idle_only : (phase : Phase) → IsPhase past.entries e.event.key phase → start_refusal phase ≡ None → ⊥
      idle_only Idle i none = true≢false (sym h.ran ∙ i.0)
      idle_only Running i none = none-some RanAlready (sym none)
      idle_only Ended i none = none-some RanAlready (sym none)
  not_again Skipped at none h = idle_only own.phase own_phase none
    where
      idle_only : (phase : Phase) → IsPhase past.entries e.event.key phase → start_refusal phase ≡ None → ⊥
      idle_only Idle i none = true≢false (sym h.ran ∙ i.0)
      idle_only Running i none = none-some RanAlready (sym none)
      idle_only Ended i none = none-some RanAlready (sym none)
  not_again Finished at none h = true≢false (sym h.begins ∙ begins_as Finished at)
  not_again Dynamic at none h = true≢false (sym h.begins ∙ begins_as Dynamic at)
  not_again Reporting at none h = true≢false (sym h.begins ∙ begins_as Reporting at)
  not_again File at none h = true≢false (sym h.begins ∙ begins_as File at)

  running_only : (phase : Phase) (n : ℕ) → IsPhase past.entries e.event.key phase → finish_refusal phase n ≡ None → (runs e.event.key past.entries ≡ true) × (n ≡ 0)
  running_only Idle n i none = absurd (none-some NotRunning (sym none))
  running_only Running n i none = (i.0, by (n == 0) refl none)
    where
      by : (zero_children : Bool) → (n == 0) ≡ zero_children → (if zero_children then None else Some ChildRunning) ≡ None → n ≡ 0
      by true is none = eqb-true n 0 is
      by false is none = absurd (none-some ChildRunning (sym none))
  running_only Ended n i none = absurd (none-some NotRunning (sym none))

  not_ending : (kind : Kind) → e.event.kind ≡ kind → refusal kind own ≡ None → ¬ EndsNothing past e
  not_ending Finished at none h = true≢false (sym (running_only own.phase own.running_children own_phase none).0 ∙ h.at_rest)
  not_ending Started at none h = true≢false (sym h.ends ∙ ends_as Started at)
  not_ending Skipped at none h = true≢false (sym h.ends ∙ ends_as Skipped at)
  not_ending Dynamic at none h = true≢false (sym h.ends ∙ ends_as Dynamic at)
  not_ending Reporting at none h = true≢false (sym h.ends ∙ ends_as Reporting at)
  not_ending File at none h = true≢false (sym h.ends ∙ ends_as File at)

  -- a running child's parent is known, and is this key
  not_left : own.running_children ≡ 0 → ¬ LeavesChild past e
  not_left none h = by (state_of states h.child).parent refl (p.states_are.parents h.child)
    where
      running : is_running (state_of states h.child).phase ≡ true
      running = sym (phase_runs past.entries h.child (state_of states h.child).phase (p.states_are.phases h.child)) ∙ h.running

      ran : (phase : Phase) → IsPhase past.entries h.child phase → is_running phase ≡ true → has_run h.child past.entries ≡ true
      ran Idle i r = absurd (true≢false (sym r))
      ran Running i r = i.1
      ran Ended i r = absurd (true≢false (sym r))

      by : (parent : Parent) → (state_of states h.child).parent ≡ parent → IsParentOf past h.child parent → ⊥
      by Unsought is of = true≢false (sym (ran (state_of states h.child).phase (p.states_are.phases h.child) running) ∙ of)
      by Root is of = let same = ap (λ (l : List SegmentView). length l) (one_id past h.child h.id of.0 h.child_is of.1) in let below = h.below in let one = of.2 in omega (arith, same, below, one)
      by (Key q) is of =
          let same = one_id past h.child h.id of.0 h.child_is of.1 in
          let key : q ≡ e.event.key = p.ids_are.unique (parent_of of.0) q e.event.key of.2.1 (subst (λ i. HasId past e.event.key (parent_of i)) same h.parent) in
          no_child e.event.key states h.child (sym (p.states_are.children e.event.key) ∙ none) running (is ∙ ap Key key)

  not_child : (kind : Kind) → e.event.kind ≡ kind → refusal kind own ≡ None → ¬ LeavesChild past e
  not_child Finished at none h = not_left (running_only own.phase own.running_children own_phase none).1 h
  not_child Started at none h = true≢false (sym h.ends ∙ ends_as Started at)
  not_child Skipped at none h = true≢false (sym h.ends ∙ ends_as Skipped at)
  not_child Dynamic at none h = true≢false (sym h.ends ∙ ends_as Dynamic at)
  not_child Reporting at none h = true≢false (sym h.ends ∙ ends_as Reporting at)
  not_child File at none h = true≢false (sym h.ends ∙ ends_as File at)

  parent_runs : (parent : Parent) → ¬ KnowsId past e → IsParent past id parent → is_at_rest states parent ≡ false → ParentRuns
  parent_runs parent fresh h rest = record { fresh = fresh; parent = no_missing parent h; running = no_rest parent h rest }

  pub breaks_own : (parent : Parent) (rule : LifecycleRule) → ¬ KnowsId past e → IsParent past id parent → is_at_rest states parent ≡ false → refusal e.event.kind own ≡ Some rule → BreaksFirst past e rule
  breaks_own parent rule fresh h rest is = refused (parent_runs parent fresh h rest) e.event.kind refl rule is

  pub breaks_none : (parent : Parent) → ¬ KnowsId past e → IsParent past id parent → is_at_rest states parent ≡ false → refusal e.event.kind own ≡ None → BreaksNone past e
  breaks_none parent fresh h rest none IdKnown = fresh
  breaks_none parent fresh h rest none ParentUnknown = no_missing parent h
  breaks_none parent fresh h rest none ParentNotRunning = no_rest parent h rest
  breaks_none parent fresh h rest none RanAlready = not_again e.event.kind refl none
  breaks_none parent fresh h rest none NotRunning = not_ending e.event.kind refl none
  breaks_none parent fresh h rest none ChildRunning = not_child e.event.kind refl none

-- before the first event
pub progress_first : (r : Recorded) (states : List KeyState) (ids : List (List ℕ × ℕ)) → states ≡ [] → ids ≡ [] → AreDifferent r.table → IsProgress (first_entries 0 r) states ids
progress_first r states ids none empty different = record {
  states_are = subst (AreStates (first_entries 0 r)) (sym none) (record { phases = λ key. (refl, refl); parents = λ key. refl; successes = λ key. refl; children = λ key. refl; few_children = λ key. omega arith });
  ids_are = ids_first r.table ids empty different;
}

-- the number of a key's running children has room for one more
pub room_for_child : (r : Recorded) (p : ℕ) (e : Entry) (states : List KeyState) → IsRecord r → slice_get r.entries p ≡ Some e → AreStates (first_entries p r) states → (key : ℕ) → (state_of states key).running_children < MAX_ENTRIES
room_for_child r p e states is stands are key =
    let few = are.few_children key in
    let within = slice_get_within r.entries p e stands in
    let taken = length-take-le p r.entries (omega (arith, within)) in
    let short = is.short in
    omega (arith, few, within, taken, short)

-- what the checks of an event find
module _ (past : Recorded) (e : Entry) (id : List SegmentView) (states : List KeyState) (ids : List (List ℕ × ℕ))
    (p : IsProgress past states ids) (its : HasId (with_entry past e) e.event.key id) (registers known : Bool) (dynamic : registers ≡ of_kind Dynamic e)
    (known_is : IsKnownId past registers id known) where
  pub checked_known : known ≡ true → BreaksFirst past e IdKnown
  checked_known is = let h = subst (IsKnownId past registers id) is known_is in breaks_id past e id states ids p its h.1 (sym dynamic ∙ h.0) h.2

  pub checked_fresh : known ≡ false → ¬ KnowsId past e
  checked_fresh is = let h = subst (IsKnownId past registers id) is known_is in no_known_id past e id states ids p its (λ d. h (dynamic ∙ d))

  same_id : (i : List SegmentView) → HasId past e.event.key i → i ≡ id
  same_id i h = one_id (with_entry past e) e.event.key i id (has_id_more past e e.event.key i h) its

  known_none : (before : Parent) (found : Option Parent) → IsKnownParent past id before found → found ≡ None → IsSought past id None
  known_none Unsought found h none = subst (IsSought past id) none h
  known_none Root found h none = absurd (none-some Root (sym none ∙ h))
  known_none (Key k) found h none = absurd (none-some (Key k) (sym none ∙ h))

  pub checked_missing : known ≡ false → (state : KeyState) (found : Option Parent) → IsKnownParent past id state.parent found → found ≡ None → BreaksFirst past e (missing_parent registers)
  checked_missing is state found h none = breaks_missing past e id states ids p its registers dynamic (checked_fresh is) (known_none state.parent found h none)

  module _ (is : known ≡ false) (state : KeyState) (state_is : state ≡ state_of states e.event.key) (found : Option Parent) (parent : Parent)
      (h : IsKnownParent past id state.parent found) (some : found ≡ Some parent) where
    parent_is : IsParent past id parent
    parent_is = parent_found past e id states ids p its state.parent found (ap (λ (s : KeyState). s.parent) (sym state_is)) h parent some same_id

    pub checked_at_rest : (rest : Bool) → rest ≡ is_at_rest states parent → rest ≡ true → BreaksFirst past e ParentNotRunning
    checked_at_rest rest r t = breaks_at_rest past e id states ids p its parent (checked_fresh is) parent_is (sym r ∙ t)

    pub checked_own : (rest : Bool) → rest ≡ is_at_rest states parent → rest ≡ false → (refused : Option LifecycleRule) (rule : LifecycleRule) → refused ≡ refusal e.event.kind state → refused ≡ Some rule → BreaksFirst past e rule
    checked_own rest r t refused rule f g = breaks_own past e id states ids p its parent rule (checked_fresh is) parent_is (sym r ∙ t) (ap (refusal e.event.kind) (sym state_is) ∙ sym f ∙ g)

    pub checked_none : (rest : Bool) → rest ≡ is_at_rest states parent → rest ≡ false → (refused : Option LifecycleRule) → refused ≡ refusal e.event.kind state → refused ≡ None → IsChecked (next_event past e) states id (Ok parent)
    checked_none rest r t refused f g = (
      breaks_none past e id states ids p its parent (checked_fresh is) parent_is (sym r ∙ t) (ap (refusal e.event.kind) (sym state_is) ∙ sym f ∙ g),
      parent_is,
      subst (λ (s : KeyState). IsKnownParent past id s.parent (Some parent)) state_is (subst (IsKnownParent past id state.parent) some h),
      ap (refusal e.event.kind) (sym state_is) ∙ sym f ∙ g,
    )
