-- Which static keys never ran, by what is known at the end of a record.
use Rattle.std.proofs.Common.{◌≡◌, ℕ, ◌<◌, ◌≤◌, ◌⊎◌, ⊎_elim, inl, inr, Bool, true, false, not, List, length, get_or, Option, Some, None, refl, sym, ◌∙◌, subst, arith, eq-eqb, eqb-true}
use Rattle.std.specs.Prelude.{◌==◌, slice_get}
use Rattle.std.proofs.lemmas.Bool.{true≢false, and_from, and_parts, or_cases, or_parts}
use Rattle.std.proofs.lemmas.Option.{none-some, same_Some, slice_get-get_or, slice_get_within}
use Rattle.tk_ids.specs.IdText.{parent_of}
use Rattle.tk_ids.specs.declared.descriptors.Descriptor.{Descriptor}
use Rattle.tk_events.specs.declared.kinds.Kind.TheVariants.{Skipped, Started}
use Rattle.tk_events.specs.declared.statuses.Status.TheVariants.{Successful}
use Rattle.tk_events.specs.declared.events.Entry.{Entry}
use Rattle.tk_record.specs.Entries.{of_kind, of_status}
use Rattle.tk_record.specs.Recorded.{Recorded}
use Rattle.tk_query_lifecycle.specs.Lifecycle.{HasId, has_event, has_run, is_event}
use Rattle.tk_query_lifecycle.specs.LifecycleLaws.{KeptRootsRun}
use Rattle.tk_query_lifecycle.specs.NeverRan.{HasNoTurn, IsDue, NeverRuns, ParentSucceeds, Succeeds}
use Rattle.tk_query_lifecycle.specs.steps.KeyStates.{is_idle, state_of}
use Rattle.tk_query_lifecycle.specs.steps.Progress.{IsFirstOfNeverRun, IsParent, IsPhase, IsProgress, IsSought, IsWhetherNeverRun, has_success, is_due, is_success}
use Rattle.tk_query_lifecycle.specs.declared.key_states.KeyState.{KeyState}
use Rattle.tk_query_lifecycle.specs.declared.key_states.Phase.{Phase}
use Rattle.tk_query_lifecycle.specs.declared.key_states.Phase.TheVariants.{Idle, Running, Ended}
use Rattle.tk_query_lifecycle.specs.declared.key_states.Parent.{Parent}
use Rattle.tk_query_lifecycle.specs.declared.key_states.Parent.TheVariants.{Unsought, Root, Key}
use Rattle.tk_query_lifecycle.proofs.KeepLemmas.{any_at, any_from}

-- a key that wasn't started or skipped, by each event
pub no_turn : (r : Recorded) (key : ℕ) → has_run key r.entries ≡ false → HasNoTurn r key
no_turn r key none =
    let n = or_parts (has_event Started key r.entries) (has_event Skipped key r.entries) none in record {
      unstarted = λ p e at own h. true≢false (sym (any_from (is_event Started key) r.entries p e at (and_from (of_kind Started e) (e.event.key == key) h (eq-eqb e.event.key key own))) ∙ n.0);
      unskipped = λ p e at own h. true≢false (sym (any_from (is_event Skipped key) r.entries p e at (and_from (of_kind Skipped e) (e.event.key == key) h (eq-eqb e.event.key key own))) ∙ n.1);
    }

pub turn : (r : Recorded) (key : ℕ) → has_run key r.entries ≡ true → ¬ HasNoTurn r key
turn r key ran none = ⊎_elim {C = ⊥}
    (λ (started : has_event Started key r.entries ≡ true). by_start (any_at (is_event Started key) r.entries started))
    (λ (skipped : has_event Skipped key r.entries ≡ true). by_skip (any_at (is_event Skipped key) r.entries skipped))
    (or_cases (has_event Started key r.entries) (has_event Skipped key r.entries) ran)
  where
    by_start : ((i : ℕ) × (e : Entry) × (slice_get r.entries i ≡ Some e) × (is_event Started key e ≡ true)) → ⊥
    by_start f = let h = and_parts (of_kind Started f.1) (f.1.event.key == key) f.3 in none.unstarted f.0 f.1 f.2 (eqb-true f.1.event.key key h.1) h.0

    by_skip : ((i : ℕ) × (e : Entry) × (slice_get r.entries i ≡ Some e) × (is_event Skipped key e ≡ true)) → ⊥
    by_skip f = let h = and_parts (of_kind Skipped f.1) (f.1.event.key == key) f.3 in none.unskipped f.0 f.1 f.2 (eqb-true f.1.event.key key h.1) h.0

succeeds : (r : Recorded) (key : ℕ) → has_success key r.entries ≡ true → Succeeds r key
succeeds r key h =
    let f = any_at (is_success key) r.entries h in
    let parts = and_parts (of_status Successful f.1) (f.1.event.key == key) f.3 in
    record { position = f.0; event = f.1; stands = f.2; of_key = eqb-true f.1.event.key key parts.1; successful = parts.0 }

success : (r : Recorded) (key : ℕ) → Succeeds r key → has_success key r.entries ≡ true
success r key s = any_from (is_success key) r.entries s.position s.event s.stands
    (and_from (of_status Successful s.event) (s.event.event.key == key) s.successful (eq-eqb s.event.event.key key s.of_key))

phase_ran : (es : List Entry) (key : ℕ) (phase : Phase) → IsPhase es key phase → not (is_idle phase) ≡ has_run key es
phase_ran es key Idle h = sym h.0
phase_ran es key Running h = sym h.1
phase_ran es key Ended h = sym h.1

-- whether a static key never runs
module _ (r : Recorded) (states : List KeyState) (ids : List (List ℕ × ℕ)) (p : IsProgress r states ids) (key : ℕ) (child : Descriptor)
    (static : slice_get r.table key ≡ Some child) (ran : Bool) (ran_is : ran ≡ not (is_idle (state_of states key).phase)) where
  ran_run : ran ≡ has_run key r.entries
  ran_run = ran_is ∙ phase_ran r.entries key (state_of states key).phase (p.states_are.phases key)

  pub where_it_ran : ran ≡ true → IsWhetherNeverRun r key false
  where_it_ran is h = turn r key (sym ran_run ∙ is) h.no_turn

  -- the descriptor that never ran is the one that is looked at
  due : NeverRuns r key → IsDue r child.id
  due h = subst (λ (d : Descriptor). IsDue r d.id)
      (same_Some h.descriptor child (sym h.static ∙ static)) h.due

  its_parent : (s : ParentSucceeds r child.id) → HasId r s.parent (parent_of child.id)
  its_parent s = record { descriptor = s.above; described = s.described; id_is = s.is_parent }

  never : ran ≡ false → IsDue r child.id → NeverRuns r key
  never is d = record {
    descriptor = child;
    static = static;
    due = d;
    no_turn = no_turn r key (sym ran_run ∙ is);
  }

  pub without_parent :
      (found : Option Parent) → IsSought r child.id found → found ≡ None →
      IsWhetherNeverRun r key false
  without_parent found sought is h =
      let s = subst (IsSought r child.id) is sought in
      let below = s.0 in
      ⊎_elim {C = ⊥}
      (λ (one : length child.id ≡ 1). absurd (omega (arith, below, one)))
      (λ (d : ParentSucceeds r child.id). s.1 d.parent (its_parent d))
      (due h)

  -- below a parent that succeeded, or didn't
  below_key :
      ran ≡ false → (parent : ℕ) → IsParent r child.id (Key parent) → (b : Bool) →
      (state_of states parent).succeeded ≡ b → IsWhetherNeverRun r key b
  below_key is parent above true succeeded = never is (inr (record {
    below = above.0;
    parent = parent;
    above = above.1.descriptor;
    described = above.1.described;
    is_parent = above.1.id_is;
    succeeds = succeeds r parent (sym (p.states_are.successes parent) ∙ succeeded);
  }))
  below_key is parent above false failed = λ h.
      let below = above.0 in
      ⊎_elim {C = ⊥}
      (λ (one : length child.id ≡ 1). absurd (omega (arith, below, one)))
      (λ (d : ParentSucceeds r child.id).
      let same = p.ids_are.unique (parent_of child.id) d.parent parent (its_parent d) above.1 in
      let ended = success r parent (subst (Succeeds r) same d.succeeds) in
      true≢false (sym ended ∙ sym (p.states_are.successes parent) ∙ failed))
      (due h)

  below :
      ran ≡ false → (parent : Parent) → IsParent r child.id parent → (b : Bool) →
      b ≡ is_due states parent → IsWhetherNeverRun r key b
  below is Unsought above b same = absurd above
  below is Root above b same = subst (IsWhetherNeverRun r key) (sym same) (never is (inl above))
  below is (Key parent) above b same = below_key is parent above b (sym same)

  pub with_parent : ran ≡ false → (found : Option Parent) (parent : Parent) → IsSought r child.id found → found ≡ Some parent → (b : Bool) → b ≡ is_due states parent → IsWhetherNeverRun r key b
  with_parent is found parent sought some b same = below is parent (subst (IsSought r child.id) some sought) b same

-- each key below the limit runs, or need not
pub record EachRunsBelow (r : Recorded) (limit : ℕ) : Type 0 where
  pub below : (lower : ℕ) → lower < limit → ¬ NeverRuns r lower

pub each_runs : (r : Recorded) (key : ℕ) → EachRunsBelow r key → slice_get r.table key ≡ None → IsFirstOfNeverRun r None
each_runs r key each past k h = ⊎_elim {C = ⊥}
    (λ (lt : k < key). each.below k lt h)
    (λ (le : key ≤ k). let within = slice_get_within r.table k h.descriptor h.static in
    none-some (get_or r.table key h.descriptor) (sym past ∙ slice_get-get_or r.table key h.descriptor (omega (arith, within, le))))
    (cases_le k key)
  where
    cases_le : (a b : ℕ) → (a < b) ⊎ (b ≤ a)
    cases_le a b = grind arith

pub kept_roots_run : KeptRootsRun
kept_roots_run r key root at one kept = turned (has_run key r.entries) refl
  where
    turned : (ran : Bool) → has_run key r.entries ≡ ran → has_run key r.entries ≡ true
    turned true ran = ran
    turned false idle = absurd (kept.1 key (record {
      descriptor = root;
      static = at;
      due = inl one;
      no_turn = no_turn r key idle;
    }))
