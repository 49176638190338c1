-- A record that shows a plan's nodes keeps the lifecycle, and so has what a listener may rely on.
use Rattle.std.proofs.Common.{◌≡◌, ◌≢◌, ◌<◌, ◌≤◌, ℕ, ◌+◌, ⊎_elim, Bool, true, false, not, List, [], ◌∷◌, ◌++◌, length, take, Option, Some, None, slice_get, refl, sym, ap, ◌∙◌, subst, arith, eq-eqb, eqb-true, ◌==◌}
use Rattle.std.specs.Option.{option_or}
use Rattle.std.specs.List.{list_any}
use Rattle.std.proofs.lemmas.Bool.{true≢false, and_parts, and_from, cases_lt}
use Rattle.std.proofs.lemmas.Option.{same_Some}
use Rattle.tk_ids.specs.IdText.{SegmentView, parent_of}
use Rattle.tk_ids.specs.Table.{ids_of, AreDifferent}
use Rattle.tk_ids.specs.declared.descriptors.Descriptor.{Descriptor}
use Rattle.tk_events.specs.declared.kinds.Kind.TheVariants.{Started, Finished}
use Rattle.tk_events.specs.declared.events.Entry.{Entry}
use Rattle.tk_record.specs.Recorded.{Recorded}
use Rattle.tk_record.specs.Entries.{of_kind, desc_in, with_entry}
use Rattle.tk_query_lifecycle.specs.Lifecycle.{is_event, has_event, runs, HasId, KnowsId, first_entries}
use Rattle.tk_query_lifecycle.specs.KeepsLifecycle.{steps_of, IsWhole, IsBelowRunning, KeepsLifecycle}
use Rattle.tk_query_lifecycle.proofs.FirstEntries.{desc_first, first_more}
use Rattle.tk_plan.specs.declared.trees.nodes.NumberedNode.{NumberedNode}
use Rattle.tk_report_text.specs.Labels.{Label, id_in, label, labels, name, same_id}
use Rattle.tk_report_text.proofs.Ids.{same_decides}
use Rattle.tk_run_laws.specs.Listening.{Listens, finishes, is_of, registers, starts}
use Rattle.tk_run_laws.proofs.LifecycleToListener.{listens}
use Rattle.tk_run_laws.proofs.PlanTrees.{IsPlanTree}
use Rattle.tk_run_laws.proofs.Positions.{any_at, any_from, in_taken, map_get, taken_at}
use Rattle.tk_run_laws.proofs.RecordIds.{AreDescribed, AreKnown, is_registered, kinds_of_id, label_at, labelled, last_segment, named, one_key, registration, step_or_none}
use Rattle.tk_run_laws.proofs.NodeLabels.{ShowsNodes, enclosed, not_later, not_nil, not_of_table, whole}

-- ---- descriptors of the first entries

name_first : (r : Recorded) (p key : ℕ) (id : List SegmentView) → HasId (first_entries p r) key id → name r key ≡ id
name_first r p key id h = ap id_in (desc_first r p key h.descriptor h.described) ∙ h.id_is

name_next : (r : Recorded) (p : ℕ) (e : Entry) (key : ℕ) (id : List SegmentView) → slice_get r.entries p ≡ Some e → HasId (with_entry (first_entries p r) e) key id → name r key ≡ id
name_next r p e key id at h = name_first r (p + 1) key id (subst (λ x. HasId x key id) (first_more r p e at) h)

parent_is_some : (id : List SegmentView) (s : SegmentView) → 1 < length id → id ≡ parent_of id ++ s ∷ [] → parent_of id ≢ []
parent_is_some id s below is none =
    let short : length id ≡ 1 = ap (λ (l : List SegmentView). length l) (is ∙ ap (λ l. l ++ s ∷ []) none) in
    omega (arith, short, below)

-- ---- records that show a plan's nodes

module _ (all : List NumberedNode) (table : List Descriptor) (r : Recorded) (plan : IsPlanTree all table) (shows : ShowsNodes all table r) where
  abbrev label_of : Entry → Label
  label_of e = label (name r) e.event

  pub ids_differ : AreDifferent r.table
  ids_differ = subst AreDifferent (sym shows.over) plan.once

  -- ---- the keys of events

  has_name : (p : ℕ) (e : Entry) → slice_get r.entries p ≡ Some e → name r e.event.key ≢ []
  has_name p e at none = not_nil all table r shows (any_from (is_of []) (labels r) p (label_of e) (label_at r p e at) ((same_decides (name r e.event.key) []).1 none))

  pub are_described : AreDescribed r
  are_described p e at = named r e.event.key (name r e.event.key) (has_name p e at) refl

  -- the first entries, with the event among them, have the id of its key
  described_by : (p : ℕ) (e : Entry) → slice_get r.entries p ≡ Some e → (n : ℕ) → p < n → HasId (first_entries n r) e.event.key (name r e.event.key)
  described_by p e at n lt = by (slice_get r.table e.event.key) refl
    where
      its : HasId r e.event.key (name r e.event.key)
      its = are_described p e at

      by : (o : Option Descriptor) → slice_get r.table e.event.key ≡ o → HasId (first_entries n r) e.event.key (name r e.event.key)
      by (Some d) is = record {
        descriptor = d;
        described = ap (λ o. option_or o (desc_in (take n r.entries) e.event.key)) is;
        id_is = sym (ap (λ o. id_in (option_or o (desc_in r.entries e.event.key))) is);
      }
      by None is =
          let g = registration r.entries e.event.key its.descriptor (sym (ap (λ o. option_or o (desc_in r.entries e.event.key)) is) ∙ its.described) in
          let early : g.position < n = ⊎_elim {C = g.position < n}
          (λ (yes : g.position < n). yes)
          (λ (no : n ≤ g.position).
          let later : p < g.position = omega (arith, lt, no) in
          absurd (not_later all table r shows (name r e.event.key) (has_name p e at) p g.position (label_of e) (label_of g.entry) later (label_at r p e at) (label_at r g.position g.entry g.stands)
          ((same_decides (name r e.event.key) (name r e.event.key)).1 refl) (is_registered r g.entry (name r e.event.key) (ap (name r) g.key_is) g.dynamic)))
          (cases_lt g.position n) in record {
            descriptor = its.descriptor;
            described = ap (λ o. option_or o (desc_in (take n r.entries) e.event.key)) is ∙ g.had n early;
            id_is = its.id_is;
          }

  known : AreKnown r
  known p e at = subst (λ x. HasId x e.event.key (name r e.event.key)) (sym (first_more r p e at)) (described_by p e at (p + 1) (omega arith))

  -- ---- the lifecycle

  ids_are_new : (p : ℕ) (e : Entry) → slice_get r.entries p ≡ Some e → KnowsId (first_entries p r) e → ⊥
  ids_are_new p e at h = by (slice_get r.table h.earlier) refl
    where
      its : name r e.event.key ≡ h.id
      its = name_next r p e e.event.key h.id at h.registered

      some : h.id ≢ []
      some none = has_name p e at (its ∙ none)

      own : registers h.id (label_of e) ≡ true
      own = is_registered r e h.id its h.dynamic

      by : (o : Option Descriptor) → slice_get r.table h.earlier ≡ o → ⊥
      by (Some d) is =
          let same : d ≡ h.known.descriptor = same_Some d h.known.descriptor (sym (ap (λ o. option_or o (desc_in (take p r.entries) h.earlier)) is) ∙ h.known.described) in
          let there : slice_get (ids_of r.table) h.earlier ≡ Some h.id = map_get (λ (x : Descriptor). x.id) r.table h.earlier d is ∙ ap (λ (x : Descriptor). Some x.id) same ∙ ap Some h.known.id_is in
          true≢false (sym (any_from (registers h.id) (labels r) p (label_of e) (label_at r p e at) own)
          ∙ not_of_table all table r shows h.id some h.earlier (subst (λ t. slice_get (ids_of t) h.earlier ≡ Some h.id) shows.over there))
      by None is =
          let g = registration (take p r.entries) h.earlier h.known.descriptor (sym (ap (λ o. option_or o (desc_in (take p r.entries) h.earlier)) is) ∙ h.known.described) in
          let t = in_taken p r.entries g.position g.entry g.stands in
          not_later all table r shows h.id some g.position p (label_of g.entry) (label_of e) t.0 (label_at r g.position g.entry t.1) (label_at r p e at)
          ((same_decides (name r g.entry.event.key) h.id).1 (ap (name r) g.key_is ∙ name_first r p h.earlier h.id h.known)) own

  -- the key of a start runs there, where nothing finished its id
  runs_there : (i : List SegmentView) (p q : ℕ) (x : Entry) (l : Label) → q < p → slice_get r.entries q ≡ Some x → label_of x ≡ l → starts i l ≡ true → not (list_any (finishes i) (take p (labels r))) ≡ true
      → HasId (first_entries p r) x.event.key i × (runs x.event.key (take p r.entries) ≡ true)
  runs_there i p q x l lt at is start none = (
    subst (HasId (first_entries p r) x.event.key) its (described_by q x at p lt),
    and_from (has_event Started x.event.key (take p r.entries)) (not (has_event Finished x.event.key (take p r.entries))) started (unfinished (has_event Finished x.event.key (take p r.entries)) refl),
  )
    where
      both : (is_of i (label_of x) ≡ true) × (of_kind Started x ≡ true)
      both = and_parts (is_of i (label_of x)) (of_kind Started x) (ap (starts i) is ∙ start)

      its : name r x.event.key ≡ i
      its = (same_decides (name r x.event.key) i).0 both.0

      started : has_event Started x.event.key (take p r.entries) ≡ true
      started = any_from (is_event Started x.event.key) (take p r.entries) q x (taken_at p r.entries q x lt at) (and_from (of_kind Started x) (x.event.key == x.event.key) both.1 (eq-eqb x.event.key x.event.key refl))

      unfinished : (b : Bool) → has_event Finished x.event.key (take p r.entries) ≡ b → not b ≡ true
      unfinished false same = refl
      unfinished true same =
          let f = any_at (is_event Finished x.event.key) (take p r.entries) same in
          let t = in_taken p r.entries f.position f.element f.stands in
          let end = and_parts (of_kind Finished f.element) (f.element.event.key == x.event.key) f.passes in
          let named : same_id (name r f.element.event.key) i ≡ true = (same_decides (name r f.element.event.key) i).1 (ap (name r) (eqb-true f.element.event.key x.event.key end.1) ∙ its) in
          let any = any_from (finishes i) (take p (labels r)) f.position (label_of f.element) (taken_at p (labels r) f.position (label_of f.element) t.0 (label_at r f.position f.element t.1))
          (and_from (same_id (name r f.element.event.key) i) (of_kind Finished f.element) named end.0) in
          sym (ap not any) ∙ none

  below_running : (p : ℕ) (e : Entry) → slice_get r.entries p ≡ Some e → IsBelowRunning r p e
  below_running p e at id its below =
      let last = last_segment id (omega (arith, below)) in
      let i = parent_of id in
      let past = take p (labels r) in
      let child : is_of (i ++ last.0 ∷ []) (label_of e) ≡ true = (same_decides (name r e.event.key) (i ++ last.0 ∷ [])).1 (name_next r p e e.event.key id at its ∙ last.1) in
      let held = and_parts (list_any (starts i) past) (not (list_any (finishes i) past))
      (enclosed all table r shows i last.0 (parent_is_some id last.0 below last.1) p (label_of e) (label_at r p e at) child) in
      let f = any_at (starts i) past held.0 in
      let t = in_taken p (labels r) f.position f.element f.stands in
      let x = labelled r f.position f.element t.1 in
      let there = runs_there i p f.position x.entry f.element t.0 x.stands x.label_is f.passes held.1 in
      (x.entry.event.key, there.0, there.1)

  whole_steps : (key : ℕ) → IsWhole (steps_of key r.entries)
  whole_steps key = ⊎_elim
      (λ (none : steps_of key r.entries ≡ []). subst IsWhole (sym none) tt)
      (λ (its : HasId r key (name r key) × (name r key ≢ [])).
      subst IsWhole (kinds_of_id r ids_differ ids_are_new are_described (name r key) key its.0) (whole all table r shows (name r key) its.1))
      (step_or_none (λ k. HasId r k (name r k) × (name r k ≢ [])) key r.entries (λ p e at. (are_described p e at, has_name p e at)))

  pub keeps : KeepsLifecycle r
  keeps = record { ids = ids_are_new; below = below_running; whole = whole_steps }

  -- of an id one key has events
  pub only_key : (id : List SegmentView) (j k : ℕ) → HasId r j id → HasId r k id → j ≡ k
  only_key = one_key r ids_differ keeps.ids

  pub relied_on : Listens (labels r)
  relied_on = listens r known ids_differ keeps
