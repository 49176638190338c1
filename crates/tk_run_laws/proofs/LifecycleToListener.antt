-- A record that keeps the lifecycle has what a listener may rely on.
use Rattle.std.proofs.Common.{◌≡◌, ◌≢◌, ◌<◌, ℕ, ◌+◌, ◌⊎◌, inl, inr, ⊎_elim, Bool, true, false, not, ◌&&◌, ◌||◌, ◌==◌, List, [], ◌∷◌, ◌++◌, map, filter, length, length-append, take, is_some, Option, Some, None, slice_get, refl, sym, ap, ap₂, ◌∙◌, subst, append_assoc, arith, tests, eqb-true}
use Rattle.std.specs.Option.{option_or}
use Rattle.std.specs.List.{list_any}
use Rattle.std.proofs.lemmas.Bool.{true≢false, and_from, and_parts, cases_Bool, cases_order, or_left, or_right}
use Rattle.std.proofs.lemmas.Option.{same_Some, get_or_from_slice_get, slice_get_within}
use Rattle.tk_ids.specs.IdText.{SegmentView, parent_of}
use Rattle.tk_ids.specs.Table.{AreDifferent}
use Rattle.tk_ids.specs.declared.descriptors.Descriptor.{Descriptor}
use Rattle.tk_events.specs.declared.kinds.Kind.{Kind}
use Rattle.tk_events.specs.declared.kinds.Kind.TheVariants.{Dynamic, Skipped, Started, Finished}
use Rattle.tk_events.specs.declared.events.Entry.{Entry}
use Rattle.tk_events.specs.Event.{kind_code}
use Rattle.tk_record.specs.Recorded.{Recorded}
use Rattle.tk_record.specs.Record.{IsRecord}
use Rattle.tk_record.specs.Entries.{of_kind, desc_in, desc, with_entry}
use Rattle.tk_query_lifecycle.specs.Lifecycle.{is_event, has_event, runs, HasId, KnowsId, first_entries}
use Rattle.tk_query_lifecycle.specs.KeepsLifecycle.{steps_of, KeepsLifecycle}
use Rattle.tk_query_lifecycle.proofs.FirstEntries.{desc_first, first_more, its_id}
use Rattle.tk_query_lifecycle.proofs.IdMapLemmas.{known_or_new, static_desc}
use Rattle.tk_query_lifecycle.proofs.StepLemmas.{Whole, none, skipped, ran, has, has_steps, to_whole}
use Rattle.tk_report_text.specs.Labels.{Label, id_in, label, labels, name, same_kind}
use Rattle.tk_report_text.proofs.Ids.{same_decides}
use Rattle.tk_run_laws.specs.Laws.{LifecycleIsReliedOn}
use Rattle.tk_run_laws.specs.Listening.{IsOnce, Listens, finishes, is_followed, is_of, is_ran, precedes, registers, skips, starts}
use Rattle.tk_run_laws.proofs.Orders.{Only, any_kept, none_passes, preceded}
use Rattle.tk_run_laws.proofs.Positions.{Earlier, Later, any_at, any_from, followed_from, in_taken, precedes_from, taken_at}
use Rattle.tk_run_laws.proofs.RecordIds.{AreDescribed, AreKnown, is_registered, kinds_of_id, label_at, labelled, last_segment, ran_of, registration, same_kinds}
use Rattle.tk_run_laws.proofs.Scripts.{no_child_of_itself, snoc_same, snoc_some}

-- ---- starts, skips and finishes

whole_is_once : (ls : List Label) → Whole (map (λ (l : Label). l.kind) ls) → IsOnce ls
whole_is_once [] w = tt
whole_is_once (x ∷ []) (none e) = cc
whole_is_once (x ∷ []) (skipped e) = let same : x.kind ≡ Skipped = cc in ap (λ k. same_kind k Skipped) same
whole_is_once (x ∷ []) (ran e) = cc
whole_is_once (x ∷ (y ∷ [])) (none e) = cc
whole_is_once (x ∷ (y ∷ [])) (skipped e) = cc
whole_is_once (x ∷ (y ∷ [])) (ran e) =
    let first : x.kind ≡ Started = cc in
    let second : y.kind ≡ Finished = cc in (ap (λ k. same_kind k Started) first, ap (λ k. same_kind k Finished) second)
whole_is_once (x ∷ (y ∷ (z ∷ zs))) (none e) = cc
whole_is_once (x ∷ (y ∷ (z ∷ zs))) (skipped e) = cc
whole_is_once (x ∷ (y ∷ (z ∷ zs))) (ran e) = cc

-- what starts finishes, where all that it does is whole
started_finishes : (ks : List Kind) → Whole ks → has Started ks ≡ true → has Finished ks ≡ true
started_finishes ks (none e) h = absurd (true≢false (sym h ∙ ap (has Started) e))
started_finishes ks (skipped e) h = absurd (true≢false (sym h ∙ ap (has Started) e))
started_finishes ks (ran e) h = ap (has Finished) e

no_registration : (k : Kind) → is_ran k ≡ true → same_kind k Dynamic ≡ true → ⊥
no_registration k step dynamic = true≢false (sym step ∙ ap is_ran (same_kinds k Dynamic dynamic))

-- ---- what is skipped

start_or_skip : (k : Kind) → same_kind k Started ≡ true → same_kind k Skipped ≡ true → ⊥
start_or_skip k s h = let a : kind_code k ≡ 3 = grind (arith, tests, s) in let b : kind_code k ≡ 2 = grind (arith, tests, h) in omega (arith, a, b)

pub finish_or_skip : (k : Kind) → same_kind k Finished ≡ true → same_kind k Skipped ≡ true → ⊥
finish_or_skip k f h = let a : kind_code k ≡ 4 = grind (arith, tests, f) in let b : kind_code k ≡ 2 = grind (arith, tests, h) in omega (arith, a, b)

any_two : (b c : Bool) → (b || (c || false)) ≡ true → (b ≡ true) ⊎ (c ≡ true)
any_two true c h = inl refl
any_two false true h = inr refl
any_two false false h = cc

any_one : (b : Bool) → (b || false) ≡ true → b ≡ true
any_one true h = refl
any_one false h = cc

-- where an id is skipped, nothing of it is of a kind that a skip isn't of
pub skipped_alone : (other : Kind) → ((k : Kind) → same_kind k other ≡ true → same_kind k Skipped ≡ true → ⊥) → (i : List SegmentView) (ls : List Label)
    → IsOnce ls → list_any (λ l. is_of i l && same_kind l.kind other) ls ≡ true → list_any (skips i) ls ≡ true → ⊥
skipped_alone other differ i [] o s k = cc
skipped_alone other differ i (x ∷ []) o s k = differ x.kind (and_parts (is_of i x) _ (any_one _ s)).1 o
skipped_alone other differ i (x ∷ (y ∷ [])) o s k = ⊎_elim {C = ⊥}
    (λ (h : skips i x ≡ true). start_or_skip x.kind o.0 (and_parts (is_of i x) _ h).1)
    (λ (h : skips i y ≡ true). finish_or_skip y.kind o.1 (and_parts (is_of i y) _ h).1)
    (any_two _ _ k)
skipped_alone other differ i (x ∷ (y ∷ (z ∷ zs))) o s k = o

start_ran : (i : List SegmentView) → Only (starts i) (ran_of i)
start_ran i l h = ap₂ (λ b c. b && c) (and_parts (is_of i l) (same_kind l.kind Started) h).0
    (or_left (same_kind l.kind Started) _ (and_parts (is_of i l) (same_kind l.kind Started) h).1)

pub skip_ran : (i : List SegmentView) → Only (skips i) (ran_of i)
skip_ran i l h = ap₂ (λ b c. b && c) (and_parts (is_of i l) (same_kind l.kind Skipped) h).0
    (or_right (same_kind l.kind Started) _ (or_right (same_kind l.kind Finished) _ (and_parts (is_of i l) (same_kind l.kind Skipped) h).1))

pub finish_ran : (i : List SegmentView) → Only (finishes i) (ran_of i)
finish_ran i l h = ap₂ (λ b c. b && c) (and_parts (is_of i l) (same_kind l.kind Finished) h).0
    (or_right (same_kind l.kind Started) _ (or_left (same_kind l.kind Finished) _ (and_parts (is_of i l) (same_kind l.kind Finished) h).1))

started_any : (i : List SegmentView) → Only (starts i) (is_of i)
started_any i l h = (and_parts (is_of i l) (same_kind l.kind Started) h).0

any_wider : (p q : Label → Bool) → Only p q → (ls : List Label) → list_any p ls ≡ true → list_any q ls ≡ true
any_wider p q only [] h = cc
any_wider p q only (x ∷ xs) h = ⊎_elim
    (λ t. or_left (q x) _ (only x t))
    (λ f. or_right (q x) _ (any_wider p q only xs (sym (ap (λ b. b || list_any p xs) f) ∙ h)))
    (cases_Bool (p x))

-- an event below i needs a start of i
below_started : (ls : List Label) → ((p : List SegmentView) (s : SegmentView) → p ≢ [] → precedes (starts p) (is_of (p ++ s ∷ [])) ls ≡ true)
    → (more : List SegmentView) (i : List SegmentView) (s : SegmentView) → i ≢ [] → list_any (is_of (i ++ s ∷ more)) ls ≡ true → list_any (starts i) ls ≡ true
below_started ls first [] i s n h = preceded (starts i) (is_of (i ++ s ∷ [])) ls (first i s n) h
below_started ls first (m ∷ more) i s n h =
    let up = below_started ls first more (i ++ s ∷ []) m (snoc_some i s) (ap (λ j. list_any (is_of j) ls) (append_assoc i (s ∷ []) (m ∷ more)) ∙ h) in
    preceded (starts i) (is_of (i ++ s ∷ [])) ls (first i s n) (any_wider (starts (i ++ s ∷ [])) (is_of (i ++ s ∷ [])) (started_any (i ++ s ∷ [])) ls up)

pub skipped_from : (ls : List Label) → ((i : List SegmentView) → IsOnce (filter (ran_of i) ls)) → ((p : List SegmentView) (s : SegmentView) → p ≢ [] → precedes (starts p) (is_of (p ++ s ∷ [])) ls ≡ true)
    → (i : List SegmentView) (s : SegmentView) (more : List SegmentView) → i ≢ [] → list_any (skips i) ls ≡ true → list_any (is_of (i ++ s ∷ more)) ls ≡ false
skipped_from ls once first i s more n h = ⊎_elim
    (λ t. let up = below_started ls first more i s n t in
    let no : ⊥ = skipped_alone Started start_or_skip i (filter (ran_of i) ls) (once i) (sym (any_kept (ran_of i) (starts i) (start_ran i) ls) ∙ up) (sym (any_kept (ran_of i) (skips i) (skip_ran i) ls) ∙ h) in absurd no)
    (λ f. f)
    (cases_Bool (list_any (is_of (i ++ s ∷ more)) ls))

-- ---- parents

parent_is : (i : List SegmentView) (s : SegmentView) → parent_of (i ++ s ∷ []) ≡ i
parent_is i s =
    let last = last_segment (i ++ s ∷ []) (omega (arith, length-append i (s ∷ []))) in
    snoc_same (parent_of (i ++ s ∷ [])) i last.0 s (sym last.1)

child_is_below : (i : List SegmentView) (s : SegmentView) → i ≢ [] → 1 < length (i ++ s ∷ [])
child_is_below [] s some = absurd (some refl)
child_is_below (x ∷ i) s some = omega (arith, length-append i (s ∷ []))

-- ---- the law

module _ (r : Recorded) (known : AreKnown r) (different : AreDifferent r.table) (keeps : KeepsLifecycle r) where
  abbrev label_of : Entry → Label
  label_of e = label (name r) e.event

  described : AreDescribed r
  described p e at =
      let h = known p e at in
      record {
        descriptor = h.descriptor;
        described = desc_first r (p + 1) e.event.key h.descriptor (ap (λ x. desc x e.event.key) (sym (first_more r p e at)) ∙ h.described);
        id_is = h.id_is;
      }

  once : (i : List SegmentView) → IsOnce (filter (ran_of i) (labels r))
  once i = ⊎_elim
      (λ (any : list_any (ran_of i) (labels r) ≡ true).
      let found = any_at (ran_of i) (labels r) any in
      let x = labelled r found.position found.element found.stands in
      let passes : ran_of i (label_of x.entry) ≡ true = ap (ran_of i) x.label_is ∙ found.passes in
      let own = (same_decides (name r x.entry.event.key) i).0 (and_parts (is_of i (label_of x.entry)) (is_ran x.entry.event.kind) passes).0 in
      let key = x.entry.event.key in
      let kinds = kinds_of_id r different keeps.ids described i key (subst (HasId r key) own (described found.position x.entry x.stands)) in
      whole_is_once (filter (ran_of i) (labels r)) (subst Whole (sym kinds) (to_whole (steps_of key r.entries) (keeps.whole key))))
      (λ (not_any : list_any (ran_of i) (labels r) ≡ false). subst IsOnce (sym (none_passes (ran_of i) (labels r) not_any)) tt)
      (cases_Bool (list_any (ran_of i) (labels r)))

  -- ---- an event of a child

  module _ (i : List SegmentView) (s : SegmentView) (some : i ≢ []) (p : ℕ) (e : Entry) (at : slice_get r.entries p ≡ Some e) (child : is_of (i ++ s ∷ []) (label_of e) ≡ true) where
    child_name : name r e.event.key ≡ i ++ s ∷ []
    child_name = (same_decides (name r e.event.key) (i ++ s ∷ [])).0 child

    -- a key of the parent runs
    record RunningParent : Type 0 where
      key : ℕ
      key_name : name r key ≡ i
      running : runs key (take p r.entries) ≡ true

    parent : RunningParent
    parent =
        let b = keeps.below p e at (i ++ s ∷ []) (subst (HasId (with_entry (first_entries p r) e) e.event.key) child_name (known p e at)) (child_is_below i s some) in
        let has = b.1 in
        record {
          key = b.0;
          key_name = ap id_in (desc_first r p b.0 has.descriptor has.described) ∙ has.id_is ∙ parent_is i s;
          running = b.2;
        }

    -- the parent's event that passes, where its kind is this
    of_parent : (kind : Kind) (x : Entry) → is_event kind parent.key x ≡ true → (is_of i (label_of x) && same_kind x.event.kind kind) ≡ true
    of_parent kind x h =
        let both = and_parts (of_kind kind x) (x.event.key == parent.key) h in
        and_from (is_of i (label_of x)) (same_kind x.event.kind kind)
        ((same_decides (name r x.event.key) i).1 (ap (name r) (eqb-true x.event.key parent.key both.1) ∙ parent.key_name)) both.0

    abbrev started_before : has_event Started parent.key (take p r.entries) ≡ true
    started_before = (and_parts (has_event Started parent.key (take p r.entries)) (not (has_event Finished parent.key (take p r.entries))) parent.running).0

    start_before : Earlier (starts i) (labels r) p
    start_before =
        let f = any_at (is_event Started parent.key) (take p r.entries) started_before in
        let t = in_taken p r.entries f.position f.element f.stands in
        record {
          found = record { position = f.position; element = label_of f.element; stands = label_at r f.position f.element t.1; passes = of_parent Started f.element f.passes };
          before = t.0;
        }

    finished_at_all : has_event Finished parent.key r.entries ≡ true
    finished_at_all =
        let f = any_at (is_event Started parent.key) (take p r.entries) started_before in
        let t = in_taken p r.entries f.position f.element f.stands in
        let started = any_from (is_event Started parent.key) r.entries f.position f.element t.1 f.passes in
        let steps = steps_of parent.key r.entries in
        has_steps Finished tt parent.key r.entries ∙ started_finishes steps (to_whole steps (keeps.whole parent.key)) (sym (has_steps Started tt parent.key r.entries) ∙ started)

    not_this : (q : ℕ) (x : Entry) → slice_get r.entries q ≡ Some x → is_event Finished parent.key x ≡ true → q ≡ p → ⊥
    not_this q x there h same =
        let event : x ≡ e = same_Some x e (sym there ∙ ap (slice_get r.entries) same ∙ at) in
        let key : e.event.key ≡ parent.key = ap (λ (y : Entry). y.event.key) (sym event) ∙ eqb-true x.event.key parent.key (and_parts (of_kind Finished x) (x.event.key == parent.key) h).1 in
        no_child_of_itself i s (sym parent.key_name ∙ ap (name r) (sym key) ∙ child_name)

    not_before : (q : ℕ) (x : Entry) → slice_get r.entries q ≡ Some x → is_event Finished parent.key x ≡ true → q < p → ⊥
    not_before q x there h lt =
        let finished = any_from (is_event Finished parent.key) (take p r.entries) q x (taken_at p r.entries q x lt there) h in
        true≢false (sym (and_parts (has_event Started parent.key (take p r.entries)) (not (has_event Finished parent.key (take p r.entries))) parent.running).1 ∙ ap not finished)

    finish_after : Later (finishes i) (labels r) p
    finish_after =
        let f = any_at (is_event Finished parent.key) r.entries finished_at_all in
        record {
          found = record { position = f.position; element = label_of f.element; stands = label_at r f.position f.element f.stands; passes = of_parent Finished f.element f.passes };
          after = ⊎_elim {C = p < f.position}
              (λ (same : f.position ≡ p). absurd (not_this f.position f.element f.stands f.passes same))
              (λ (or : (f.position < p) ⊎ (p < f.position)). ⊎_elim {C = p < f.position}
              (λ (no : f.position < p). absurd (not_before f.position f.element f.stands f.passes no))
              (λ (yes : p < f.position). yes)
              or)
              (cases_order f.position p);
        }

  start_first : (i : List SegmentView) (s : SegmentView) → i ≢ [] → precedes (starts i) (is_of (i ++ s ∷ [])) (labels r) ≡ true
  start_first i s some = precedes_from (starts i) (is_of (i ++ s ∷ [])) (labels r) (λ p l at child.
      let x = labelled r p l at in
      start_before i s some p x.entry x.stands (ap (is_of (i ++ s ∷ [])) x.label_is ∙ child))

  finish_last : (i : List SegmentView) (s : SegmentView) → i ≢ [] → is_followed (is_of (i ++ s ∷ [])) (finishes i) (labels r) ≡ true
  finish_last i s some = followed_from (is_of (i ++ s ∷ [])) (finishes i) (labels r) (λ p l at child.
      let x = labelled r p l at in
      finish_after i s some p x.entry x.stands (ap (is_of (i ++ s ∷ [])) x.label_is ∙ child))

  -- ---- registrations

  -- an id that is registered is none of the table's
  not_static : (i : List SegmentView) → list_any (registers i) (labels r) ≡ true → (key : ℕ) → HasId r key i → (d : Descriptor) → slice_get r.table key ≡ Some d → ⊥
  not_static i any key own d static =
      let f = any_at (registers i) (labels r) any in
      let g = labelled r f.position f.element f.stands in
      let both = and_parts (is_of i (label_of g.entry)) (same_kind g.entry.event.kind Dynamic) (ap (registers i) g.label_is ∙ f.passes) in
      let past = first_entries f.position r in
      let same : d ≡ own.descriptor = same_Some d own.descriptor (sym (static_desc r key d static) ∙ own.described) in
      keeps.ids f.position g.entry g.stands (let h : KnowsId past g.entry = record {
        dynamic = both.1;
        id = i;
        registered = subst (HasId (with_entry past g.entry) g.entry.event.key) ((same_decides (name r g.entry.event.key) i).0 both.0) (known f.position g.entry g.stands);
        earlier = key;
        known = record { descriptor = d; described = static_desc past key d static; id_is = ap (λ (x : Descriptor). x.id) same ∙ own.id_is };
      } in h)

  registered_before : (i : List SegmentView) → list_any (registers i) (labels r) ≡ true → (p : ℕ) (e : Entry) → slice_get r.entries p ≡ Some e → ran_of i (label_of e) ≡ true → Earlier (registers i) (labels r) p
  registered_before i any p e at h =
      let both = and_parts (is_of i (label_of e)) (is_ran e.event.kind) h in
      let own : name r e.event.key ≡ i = (same_decides (name r e.event.key) i).0 both.0 in
      let after = subst (HasId (with_entry (first_entries p r) e) e.event.key) own (known p e at) in
      ⊎_elim {C = Earlier (registers i) (labels r) p}
      (λ (known : HasId (first_entries p r) e.event.key i). by own known (slice_get r.table e.event.key) refl)
      (λ (new : (of_kind Dynamic e ≡ true) × (e.event.key ≡ e.event.key)). absurd (no_registration e.event.kind both.1 new.0))
      (known_or_new (first_entries p r) e e.event.key i after)
    where
      by : name r e.event.key ≡ i → HasId (first_entries p r) e.event.key i → (o : Option Descriptor) → slice_get r.table e.event.key ≡ o → Earlier (registers i) (labels r) p
      by own known (Some d) static = absurd (not_static i any e.event.key (subst (HasId r e.event.key) own (described p e at)) d static)
      by own known None no_static =
          let g = registration (take p r.entries) e.event.key known.descriptor (sym (ap (λ o. option_or o (desc_in (take p r.entries) e.event.key)) no_static) ∙ known.described) in
          let t = in_taken p r.entries g.position g.entry g.stands in
          record {
            found = record { position = g.position; element = label_of g.entry; stands = label_at r g.position g.entry t.1; passes = is_registered r g.entry i (ap (name r) g.key_is ∙ own) g.dynamic };
            before = t.0;
          }

  registered_first : (i : List SegmentView) → list_any (registers i) (labels r) ≡ true → precedes (registers i) (ran_of i) (labels r) ≡ true
  registered_first i any = precedes_from (registers i) (ran_of i) (labels r) (λ p l at h.
      let x = labelled r p l at in
      registered_before i any p x.entry x.stands (ap (ran_of i) x.label_is ∙ h))

  pub listens : Listens (labels r)
  listens = record {
    once = once;
    start_first = start_first;
    finish_last = finish_last;
    skipped = skipped_from (labels r) once start_first;
    registered_first = registered_first;
  }

-- the key of each event of a record has its id from the event on
known_in : (r : Recorded) → IsRecord r → AreKnown r
known_in r is p e at = by (desc r e.event.key) refl
  where
    some : is_some (desc r e.event.key) ≡ true
    some = subst (λ (x : Entry). is_some (desc r x.event.key) ≡ true) (get_or_from_slice_get r.entries p e e at) (is.known p e (slice_get_within r.entries p e at))

    by : (o : Option Descriptor) → desc r e.event.key ≡ o → HasId (with_entry (first_entries p r) e) e.event.key (name r e.event.key)
    by None missing = absurd (true≢false (sym some ∙ ap is_some missing))
    by (Some d) found = subst (HasId (with_entry (first_entries p r) e) e.event.key) (sym (ap id_in found)) (its_id r p e d is at found)

pub lifecycle_is_relied_on : LifecycleIsReliedOn
lifecycle_is_relied_on r is different keeps = listens r (known_in r is) different keeps
