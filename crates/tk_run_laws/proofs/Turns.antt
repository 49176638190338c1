-- In a record that keeps the lifecycle, in which each static key has its turn, no static key that is due is left out.
use Rattle.std.proofs.Common.{◌≡◌, ℕ, zero, suc, ◌+◌, ◌-◌, ◌<◌, ◌≤◌, ◌⊎◌, ⊎_elim, inl, inr, true, false, ◌||◌, not, List, [], ◌∷◌, ◌++◌, length, take, Some, slice_get, if◌then◌else◌, refl, sym, ap, ◌∙◌, subst, arith, eq-eqb, eqb-true}
use Rattle.std.specs.Prelude.{◌==◌}
use Rattle.std.proofs.lemmas.Bool.{true≢false, and_from, and_parts}
use Rattle.std.proofs.lemmas.List.{length-append, length-take-le, take-take}
use Rattle.std.proofs.lemmas.Option.{same_Some, slice_get_within}
use Rattle.tk_ids.specs.IdText.{IsBelow, SegmentView, parent_of}
use Rattle.tk_ids.specs.Table.{AreDifferent, ids_of}
use Rattle.tk_ids.specs.declared.descriptors.Descriptor.{Descriptor}
use Rattle.tk_events.specs.declared.kinds.Kind.{Kind}
use Rattle.tk_events.specs.declared.kinds.Kind.TheVariants.{Dynamic, File, Finished, Reporting, Skipped, Started}
use Rattle.tk_events.specs.declared.payloads.Payload.{Payload}
use Rattle.tk_events.specs.declared.events.Entry.{Entry}
use Rattle.tk_events.specs.Event.{kind_code}
use Rattle.tk_record.specs.Entries.{of_kind, status_number, with_entry}
use Rattle.tk_record.specs.Record.{IsRecord}
use Rattle.tk_record.specs.Recorded.{Recorded}
use Rattle.tk_query_lifecycle.specs.Lifecycle.{HasId, first_entries, has_event, has_run, is_event}
use Rattle.tk_query_lifecycle.specs.KeepsLifecycle.{IsWhole, KeepsLifecycle, steps_of}
use Rattle.tk_query_lifecycle.specs.NeverRan.{EachDueKeyRuns, NeverRuns, ParentSucceeds}
use Rattle.tk_query_lifecycle.proofs.FirstEntries.{desc_first, its_id}
use Rattle.tk_query_lifecycle.proofs.IdMapLemmas.{found_static}
use Rattle.tk_query_lifecycle.proofs.KeepLemmas.{any_at, any_from}
use Rattle.tk_query_lifecycle.proofs.NeverRanLemmas.{turn}
use Rattle.tk_query_lifecycle.proofs.StepLemmas.{has, has_run_steps, has_steps}
use Rattle.tk_plan.specs.Ids.{descriptor, descriptor_in, descriptors, descriptors_below}
use Rattle.tk_plan.specs.Planned.{IsPlanned}
use Rattle.tk_plan.specs.Trees.{Forest, Tree, forest, more, no_trees, tree}
use Rattle.tk_plan.specs.declared.trees.nodes.NumberedNode.{NumberedNode}
use Rattle.tk_run_laws.proofs.Lists.{Each, each-append, each_at}
use Rattle.tk_run_laws.proofs.Positions.{in_taken, of_map}
use Rattle.tk_run_laws.proofs.RecordIds.{one_key}

-- the key stands below a static key that was skipped
pub record IsUnderSkip (r : Recorded) (key : ℕ) : Type 0 where
  pub above : ℕ
  pub skipped : has_event Skipped above r.entries ≡ true
  pub id : List SegmentView
  pub its : slice_get (ids_of r.table) above ≡ Some id
  pub own : List SegmentView
  pub own_is : slice_get (ids_of r.table) key ≡ Some own
  pub below : IsBelow id own

-- the key started or was skipped, or stands below a static key that was skipped
abbrev pub IsTurned : Recorded → ℕ → Type 0
IsTurned r key = (has_run key r.entries ≡ true) ⊎ IsUnderSkip r key

-- ---- ids of a plan's table

abbrev IsLong : Descriptor → Type 0
IsLong d = 0 < length d.id

mutual
  long_tree : (above : List SegmentView) (t : Tree) → Each IsLong (descriptors above t)
  long_tree above (tree n k f) =
      let id = above ++ n.segment ∷ [] in
      each-append IsLong (descriptor_in id n) (descriptors_below id f)
      (elim n.is_static as (λ b. Each IsLong (if b then descriptor id n ∷ [] else [])) [ true ↦ (omega (arith, length-append above (n.segment ∷ [])), tt) | false ↦ tt ])
      (long_forest id f)

  long_forest : (above : List SegmentView) (f : Forest) → Each IsLong (descriptors_below above f)
  long_forest above no_trees = tt
  long_forest above (more t f) = each-append IsLong (descriptors above t) (descriptors_below above f) (long_tree above t) (long_forest above f)

-- each id of the table has a segment
pub long_ids : (nodes : List NumberedNode) (table : List Descriptor) → IsPlanned nodes table → (key : ℕ) (id : List SegmentView) → slice_get (ids_of table) key ≡ Some id → 0 < length id
long_ids nodes table planned key id its =
    let d = of_map (λ (x : Descriptor). x.id) table key id its in
    subst (λ i. 0 < length i) d.2 (each_at IsLong table key d.0 (subst (Each IsLong) (sym planned.described) (long_forest [] (forest nodes))) d.1)

-- ---- a key that was skipped does nothing else

alone : (ks : List Kind) → IsWhole ks → has Skipped ks ≡ true → (has Started ks ≡ false) × (has Finished ks ≡ false)
alone [] w h = absurd (true≢false (sym h))
alone (Skipped ∷ []) w h = (refl, refl)
alone (Skipped ∷ (k ∷ ks)) w h = absurd w
alone (Started ∷ []) w h = absurd w
alone (Started ∷ (Finished ∷ [])) w h = absurd (true≢false (sym h))
alone (Started ∷ (Finished ∷ (k ∷ ks))) w h = absurd w
alone (Started ∷ (Dynamic ∷ ks)) w h = absurd w
alone (Started ∷ (Skipped ∷ ks)) w h = absurd w
alone (Started ∷ (Started ∷ ks)) w h = absurd w
alone (Started ∷ (Reporting ∷ ks)) w h = absurd w
alone (Started ∷ (File ∷ ks)) w h = absurd w
alone (Dynamic ∷ ks) w h = absurd w
alone (Finished ∷ ks) w h = absurd w
alone (Reporting ∷ ks) w h = absurd w
alone (File ∷ ks) w h = absurd w

pub finish_of : (kind : Kind) (payload : Payload) → (status_number kind payload == 1) ≡ true → (kind_code kind == kind_code Finished) ≡ true
finish_of Finished payload h = refl
finish_of Dynamic payload h = absurd (true≢false (sym h))
finish_of Skipped payload h = absurd (true≢false (sym h))
finish_of Started payload h = absurd (true≢false (sym h))
finish_of Reporting payload h = absurd (true≢false (sym h))
finish_of File payload h = absurd (true≢false (sym h))

-- ---- ids above an id

taken_again : (n : ℕ) (id : List SegmentView) → n ≤ length id - 1 → take n (parent_of id) ≡ take n id
taken_again n id le = take-take n (length id - 1) id le

parent_length : (id : List SegmentView) → length (parent_of id) ≡ length id - 1
parent_length id = length-take-le (length id - 1) id (omega arith)

take_seam : (a b : List SegmentView) → take (length a) (a ++ b) ≡ a
take_seam [] [] = refl
take_seam [] (x ∷ b) = refl
take_seam (x ∷ a) b = ap (λ l. x ∷ l) (take_seam a b)

-- ---- what started above an event

record IsStartOf (r : Recorded) (id : List SegmentView) : Type 0 where
  position : ℕ
  entry : Entry
  stands : slice_get r.entries position ≡ Some entry
  its : HasId r entry.event.key id
  starts : of_kind Started entry ≡ true

module _ (r : Recorded) (is : IsRecord r) (keeps : KeepsLifecycle r) where
  -- the start of the parent of an event's key
  parent_start : (id : List SegmentView) (q : ℕ) (e : Entry) → slice_get r.entries q ≡ Some e → HasId r e.event.key id → 1 < length id → IsStartOf r (parent_of id)
  parent_start id q e at h below =
      let its : HasId (with_entry (first_entries q r) e) e.event.key id
      = subst (HasId (with_entry (first_entries q r) e) e.event.key) h.id_is (its_id r q e h.descriptor is at h.described) in
      let b = keeps.below q e at id its below in
      let started = (and_parts (has_event Started b.0 (take q r.entries)) (not (has_event Finished b.0 (take q r.entries))) b.2).0 in
      let f = any_at (is_event Started b.0) (take q r.entries) started in
      let t = in_taken q r.entries f.0 f.1 f.2 in
      let parts = and_parts (of_kind Started f.1) (f.1.event.key == b.0) f.3 in
      record {
        position = f.0;
        entry = f.1;
        stands = t.1;
        its = subst (λ k. HasId r k (parent_of id)) (sym (eqb-true f.1.event.key b.0 parts.1))
            (record { descriptor = b.1.descriptor; described = desc_first r q b.0 b.1.descriptor b.1.described; id_is = b.1.id_is });
        starts = parts.0;
      }

  climb : (a : List SegmentView) (n : ℕ) (id : List SegmentView) (q : ℕ) (e : Entry) → 0 < length a → take (length a) id ≡ a → length id ≡ length a + suc n
      → slice_get r.entries q ≡ Some e → HasId r e.event.key id → IsStartOf r a
  climb a zero id q e some begins long at h =
      let s = parent_start id q e at h (omega (arith, some, long)) in
      subst (IsStartOf r) (ap (λ n. take n id) (let same : length id - 1 ≡ length a = omega (arith, long) in same) ∙ begins) s
  climb a (suc n) id q e some begins long at h =
      let s = parent_start id q e at h (omega (arith, some, long)) in
      climb a n (parent_of id) s.position s.entry some
      (taken_again (length a) id (omega (arith, long)) ∙ begins)
      (parent_length id ∙ (let one : length id - 1 ≡ length a + suc n = omega (arith, long) in one))
      s.stands s.its

  module _ (different : AreDifferent r.table) where
    static_in : (key : ℕ) (id : List SegmentView) → slice_get (ids_of r.table) key ≡ Some id → (es : List Entry) → HasId (let x : Recorded = record { table = r.table; entries = es } in x) key id
    static_in key id its es = found_static (record { table = r.table; entries = es }) r.table id key refl its

    -- no other key has the id of a static one
    static_key : (id : List SegmentView) (key other : ℕ) → slice_get (ids_of r.table) key ≡ Some id → HasId r other id → other ≡ key
    static_key id key other its h = one_key r different keeps.ids id other key h (static_in key id its r.entries)

    -- a skipped static key has no start and no finish
    skipped_key : (above : ℕ) → has_event Skipped above r.entries ≡ true → (has_event Started above r.entries ≡ false) × (has_event Finished above r.entries ≡ false)
    skipped_key above skipped =
        let a = alone (steps_of above r.entries) (keeps.whole above) (sym (has_steps Skipped tt above r.entries) ∙ skipped) in
        (has_steps Started tt above r.entries ∙ a.0, has_steps Finished tt above r.entries ∙ a.1)

    module _ (some : (key : ℕ) (id : List SegmentView) → slice_get (ids_of r.table) key ≡ Some id → 0 < length id) (key : ℕ) (h : NeverRuns r key) where
      abbrev own : List SegmentView
      own = h.descriptor.id

      own_id : (id : List SegmentView) → slice_get (ids_of r.table) key ≡ Some id → own ≡ id
      own_id id its =
          let d = of_map (λ (x : Descriptor). x.id) r.table key id its in
          ap (λ (x : Descriptor). x.id) (same_Some h.descriptor d.0 (sym h.static ∙ d.1)) ∙ d.2

      -- below what was skipped no parent succeeds
      module _ (s : ParentSucceeds r own) where
        abbrev end : Entry
        end = s.succeeds.event

        end_id : HasId r end.event.key (parent_of own)
        end_id = subst (λ k. HasId r k (parent_of own)) (sym s.succeeds.of_key) (record { descriptor = s.above; described = s.described; id_is = s.is_parent })

        end_of : (above : ℕ) → end.event.key ≡ above → has_event Finished above r.entries ≡ true
        end_of above same = any_from (is_event Finished above) r.entries s.succeeds.position end s.succeeds.stands
            (and_from (of_kind Finished end) (end.event.key == above) (finish_of end.event.kind end.event.payload s.succeeds.successful) (eq-eqb end.event.key above same))

        by_length : (above : ℕ) (a : List SegmentView) → has_event Skipped above r.entries ≡ true → slice_get (ids_of r.table) above ≡ Some a → take (length a) own ≡ a
            → (n : ℕ) → length own ≡ length a + suc n → ⊥
        by_length above a skipped its begins zero long =
            let same : parent_of own ≡ a = ap (λ n. take n own) (let one : length own - 1 ≡ length a = omega (arith, long) in one) ∙ begins in
            let key_is = static_key a above end.event.key its (subst (HasId r end.event.key) same end_id) in
            true≢false (sym (end_of above key_is) ∙ (skipped_key above skipped).1)
        by_length above a skipped its begins (suc n) long =
            let t = climb a n (parent_of own) s.succeeds.position end (some above a its)
            (taken_again (length a) own (omega (arith, long)) ∙ begins)
            (parent_length own ∙ (let one : length own - 1 ≡ length a + suc n = omega (arith, long) in one))
            s.succeeds.stands end_id in
            let key_is = static_key a above t.entry.event.key its t.its in
            true≢false (sym (any_from (is_event Started above) r.entries t.position t.entry t.stands
            (and_from (of_kind Started t.entry) (t.entry.event.key == above) t.starts (eq-eqb t.entry.event.key above key_is))) ∙ (skipped_key above skipped).0)

      not_below : IsUnderSkip r key → ⊥
      not_below u =
          let a = u.id in
          let b = u.below in
          let is : own ≡ a ++ b.0 ∷ b.1 = own_id u.own u.own_is ∙ b.2 in
          let long : length own ≡ length a + suc (length b.1) = ap (λ (l : List SegmentView). length l) is ∙ length-append a (b.0 ∷ b.1) in
          let above_some = some u.above a u.its in
          ⊎_elim {C = ⊥}
          (λ (root : length own ≡ 1). absurd (omega (arith, root, long, above_some)))
          (λ (s : ParentSucceeds r own).
          by_length s u.above a u.skipped u.its
          (ap (take (length a)) is ∙ take_seam a (b.0 ∷ b.1)) (length b.1) long)
          h.due

      not_turned : IsTurned r key → ⊥
      not_turned (inl ran) = turn r key ran h.no_turn
      not_turned (inr u) = not_below u

    pub turned_keys_run : ((key : ℕ) (id : List SegmentView) → slice_get (ids_of r.table) key ≡ Some id → 0 < length id) → ((key : ℕ) → key < length r.table → IsTurned r key) → EachDueKeyRuns r
    turned_keys_run some turns key h = not_turned some key h (turns key (slice_get_within r.table key h.descriptor h.static))

-- a key with one of these lists of steps has run
pub ran_by_steps : (r : Recorded) (key : ℕ) (ks : List Kind) → steps_of key r.entries ≡ ks → (has Started ks || has Skipped ks) ≡ true → has_run key r.entries ≡ true
ran_by_steps r key ks steps begun = has_run_steps key r.entries ∙ ap (λ l. has Started l || has Skipped l) steps ∙ begun
