-- The ids of a record: which keys have them, and where they are registered.
use Rattle.std.proofs.Common.{◌≡◌, ◌≢◌, ◌<◌, ℕ, zero, suc, ◌⊎◌, inl, inr, ⊎_elim, Bool, true, false, cond, ◌&&◌, ◌||◌, ◌==◌, List, [], ◌∷◌, ◌++◌, ◌-◌, map, filter, length, take, Option, Some, None, slice_get, if◌then◌else◌, refl, sym, ap, ap₂, ◌∙◌, subst, arith, tests, eqb-true}
use Rattle.std.specs.Option.{option_or}
use Rattle.std.proofs.Math.Bool.{and_comm, or_comm}
use Rattle.std.proofs.lemmas.Bool.{and_from, and_parts, cases_Bool}
use Rattle.std.proofs.lemmas.List.{take_all}
use Rattle.std.proofs.lemmas.Option.{same_Some, none-some}
use Rattle.tk_ids.specs.IdText.{SegmentView, parent_of}
use Rattle.tk_ids.specs.Table.{AreDifferent}
use Rattle.tk_ids.specs.declared.descriptors.Descriptor.{Descriptor}
use Rattle.tk_events.specs.declared.kinds.Kind.{Kind}
use Rattle.tk_events.specs.declared.kinds.Kind.TheVariants.{Dynamic, Skipped, Started, Finished}
use Rattle.tk_events.specs.declared.events.Entry.{Entry}
use Rattle.tk_events.specs.Event.{kind_code, kind_of_code}
use Rattle.tk_events.proofs.KindLemmas.{kind_again}
use Rattle.tk_record.specs.Recorded.{Recorded}
use Rattle.tk_record.specs.Entries.{of_kind, described, registered, desc_in, desc, with_entry}
use Rattle.tk_query_lifecycle.specs.Lifecycle.{HasId, first_entries}
use Rattle.tk_query_lifecycle.specs.KeepsLifecycle.{is_step, steps_of}
use Rattle.tk_query_lifecycle.proofs.KeepLemmas.{IdsAreNew, unique_ids}
use Rattle.tk_report_text.specs.Labels.{Label, events, id_in, label, labels, name, same_id, same_kind}
use Rattle.tk_report_text.proofs.Ids.{same_decides}
use Rattle.tk_run_laws.specs.Listening.{is_of, is_ran, registers}
use Rattle.tk_run_laws.proofs.Positions.{map_get, of_map}

-- ---- entries and their labels

-- a start, a finish or a skip of an id
abbrev pub ran_of : List SegmentView → Label → Bool
ran_of i l = is_of i l && is_ran l.kind

pub label_at : (r : Recorded) (p : ℕ) (e : Entry) → slice_get r.entries p ≡ Some e → slice_get (labels r) p ≡ Some (label (name r) e.event)
label_at r p e at = map_get (label (name r)) (events r.entries) p e.event (map_get (λ (x : Entry). x.event) r.entries p e at)

-- the entry of a label
pub record IsLabelled (r : Recorded) (p : ℕ) (l : Label) : Type 0 where
  pub entry : Entry
  pub stands : slice_get r.entries p ≡ Some entry
  pub label_is : label (name r) entry.event ≡ l

pub labelled : (r : Recorded) (p : ℕ) (l : Label) → slice_get (labels r) p ≡ Some l → IsLabelled r p l
labelled r p l at =
    let x = of_map (label (name r)) (events r.entries) p l at in
    let y = of_map (λ (e : Entry). e.event) r.entries p x.0 x.1 in
    record { entry = y.0; stands = y.1; label_is = ap (label (name r)) y.2 ∙ x.2 }

pub is_registered : (r : Recorded) (e : Entry) (i : List SegmentView) → name r e.event.key ≡ i → of_kind Dynamic e ≡ true → registers i (label (name r) e.event) ≡ true
is_registered r e i is dynamic = and_from (same_id (name r e.event.key) i) (of_kind Dynamic e) ((same_decides (name r e.event.key) i).1 is) dynamic

-- ---- where keys are registered

-- where a key is registered, and that the entries up to there have its descriptor
pub record Registration (es : List Entry) (key : ℕ) (d : Descriptor) : Type 0 where
  pub position : ℕ
  pub entry : Entry
  pub stands : slice_get es position ≡ Some entry
  pub dynamic : of_kind Dynamic entry ≡ true
  pub key_is : entry.event.key ≡ key
  pub had : (n : ℕ) → position < n → desc_in (take n es) key ≡ Some d

registers_key : (key : ℕ) (e : Entry) (d : Descriptor) → registered key e ≡ Some d → (of_kind Dynamic e ≡ true) × (e.event.key ≡ key)
registers_key key e d is = by (of_kind Dynamic e) (e.event.key == key) refl refl is
  where
    by : (dynamic same : Bool) → of_kind Dynamic e ≡ dynamic → (e.event.key == key) ≡ same → (if dynamic && same then described e.event.payload else None) ≡ Some d → (of_kind Dynamic e ≡ true) × (e.event.key ≡ key)
    by true true is same some = (is, eqb-true e.event.key key same)
    by true false is same some = absurd (none-some d some)
    by false same is at some = absurd (none-some d some)

had_first : (e : Entry) (es : List Entry) (key : ℕ) (d : Descriptor) → registered key e ≡ Some d → (n : ℕ) → 0 < n → desc_in (take n (e ∷ es)) key ≡ Some d
had_first e es key d is zero lt = let no : ⊥ = omega (arith, lt) in absurd no
had_first e es key d is (suc n) lt = ap (λ o. option_or o (desc_in (take n es) key)) is

had_next : (e : Entry) (es : List Entry) (key p : ℕ) (d : Descriptor) → registered key e ≡ None → ((n : ℕ) → p < n → desc_in (take n es) key ≡ Some d) → (n : ℕ) → suc p < n → desc_in (take n (e ∷ es)) key ≡ Some d
had_next e es key p d none had zero lt = let no : ⊥ = omega (arith, lt) in absurd no
had_next e es key p d none had (suc n) lt = ap (λ o. option_or o (desc_in (take n es) key)) none ∙ had n (omega (arith, lt))

registration_next : (e : Entry) (es : List Entry) (key : ℕ) (d : Descriptor) → registered key e ≡ None → Registration es key d → Registration (e ∷ es) key d
registration_next e es key d none rest = record {
  position = suc rest.position;
  entry = rest.entry;
  stands = rest.stands;
  dynamic = rest.dynamic;
  key_is = rest.key_is;
  had = had_next e es key rest.position d none rest.had;
}

pub registration : (es : List Entry) (key : ℕ) (d : Descriptor) → desc_in es key ≡ Some d → Registration es key d
registration [] key d is = absurd (none-some d is)
registration (e ∷ es) key d is = by (λ h. registration es key d h) (registered key e) refl
  where
    by : (desc_in es key ≡ Some d → Registration es key d) → (o : Option Descriptor) → registered key e ≡ o → Registration (e ∷ es) key d
    by rest (Some x) some =
        let same : x ≡ d = same_Some x d (sym (ap (λ o. option_or o (desc_in es key)) some) ∙ is) in
        let its = registers_key key e x some in record {
          position = 0;
          entry = e;
          stands = refl;
          dynamic = its.0;
          key_is = its.1;
          had = had_first e es key d (some ∙ ap Some same);
        }
    by rest None none = registration_next e es key d none (rest (sym (ap (λ o. option_or o (desc_in es key)) none) ∙ is))

-- ---- one key for each id

has_name : (r : Recorded) (key : ℕ) (id : List SegmentView) → HasId r key id → name r key ≡ id
has_name r key id h = ap id_in h.described ∙ h.id_is

-- a key that has a name has a descriptor with it
pub named : (r : Recorded) (key : ℕ) (id : List SegmentView) → id ≢ [] → name r key ≡ id → HasId r key id
named r key id some is = by (desc r key) refl
  where
    by : (o : Option Descriptor) → desc r key ≡ o → HasId r key id
    by None none = absurd (some (sym is ∙ ap id_in none))
    by (Some d) found = record { descriptor = d; described = found; id_is = sym (ap id_in found) ∙ is }

-- the key of each event has a descriptor
abbrev pub AreDescribed : Recorded → Type 0
AreDescribed r = (p : ℕ) (e : Entry) → slice_get r.entries p ≡ Some e → HasId r e.event.key (name r e.event.key)

-- and has it from the event on
abbrev pub AreKnown : Recorded → Type 0
AreKnown r = (p : ℕ) (e : Entry) → slice_get r.entries p ≡ Some e → HasId (with_entry (first_entries p r) e) e.event.key (name r e.event.key)

module _ (r : Recorded) (different : AreDifferent r.table) (new : IdsAreNew r) where
  pub one_key : (id : List SegmentView) (j k : ℕ) → HasId r j id → HasId r k id → j ≡ k
  one_key id j k h g =
      let n = length r.entries in
      let whole = sym (take_all n r.entries (omega arith)) in
      let first : (key : ℕ) → HasId r key id → HasId (let x : Recorded = record { table = r.table; entries = take n r.entries } in x) key id
      = λ key h. subst (λ l. HasId (let x : Recorded = record { table = r.table; entries = l } in x) key id) whole h in
      unique_ids r different new n (omega arith) id j k (first j h) (first k g)

  module _ (are : AreDescribed r) (id : List SegmentView) (key : ℕ) (its : HasId r key id) where
    -- the events of the id are those of the key
    same_events : (p : ℕ) (e : Entry) → slice_get r.entries p ≡ Some e → same_id (name r e.event.key) id ≡ (e.event.key == key)
    same_events p e at = ⊎_elim
        (λ y. let same : e.event.key ≡ key = grind (arith, tests, y) in (same_decides (name r e.event.key) id).1 (ap (name r) same ∙ has_name r key id its) ∙ sym y)
        (λ n. ⊎_elim
        (λ s.
        let own = subst (HasId r e.event.key) ((same_decides (name r e.event.key) id).0 s) (are p e at) in
        let same : e.event.key ≡ key = one_key id e.event.key key own its in
        let differ : e.event.key ≢ key = grind (arith, tests, n) in absurd (differ same))
        (λ f. f ∙ sym n)
        (cases_Bool (same_id (name r e.event.key) id)))
        (cases_Bool (e.event.key == key))

    -- the kinds of the key's steps are those of the labels that a listener gets
    kinds_in : (es : List Entry) → ((p : ℕ) (e : Entry) → slice_get es p ≡ Some e → same_id (name r e.event.key) id ≡ (e.event.key == key))
        → map (λ (l : Label). l.kind) (filter (ran_of id) (map (label (name r)) (events es))) ≡ steps_of key es
    kinds_in [] own = refl
    kinds_in (e ∷ es) own =
        let k = e.event.kind in
        let rest = filter (ran_of id) (map (label (name r)) (events es)) in
        let more = kinds_in es (λ p x at. own (suc p) x at) in
        let same : ran_of id (label (name r) e.event) ≡ (is_step k && (e.event.key == key))
        = ap₂ (λ b c. b && (same_kind k Started || c)) (own 0 e refl) (or_comm (same_kind k Finished) (same_kind k Skipped)) ∙ and_comm (e.event.key == key) (is_step k) in
        ap (λ b. map (λ (l : Label). l.kind) (cond b (label (name r) e.event ∷ rest) rest)) same
        ∙ elim (is_step k && (e.event.key == key)) as (λ b. map (λ (l : Label). l.kind) (cond b (label (name r) e.event ∷ rest) rest) ≡ (if b then k ∷ steps_of key es else steps_of key es)) [
          | true ↦ ap (λ l. k ∷ l) more
          | false ↦ more
        ]

    pub kinds_of_id : map (λ (l : Label). l.kind) (filter (ran_of id) (labels r)) ≡ steps_of key r.entries
    kinds_of_id = kinds_in r.entries same_events

-- ---- steps

pub same_kinds : (a b : Kind) → same_kind a b ≡ true → a ≡ b
same_kinds a b h = same_Some a b (sym (kind_again a) ∙ ap kind_of_code (eqb-true (kind_code a) (kind_code b) h) ∙ kind_again b)

-- a key has no step there, or what holds of the keys of all events there
pub step_or_none : (P : ℕ → Type 0) (key : ℕ) (es : List Entry) → ((p : ℕ) (e : Entry) → slice_get es p ≡ Some e → P e.event.key) → (steps_of key es ≡ []) ⊎ P key
step_or_none P key [] own = inl refl
step_or_none P key (e ∷ es) own = ⊎_elim {C = (steps_of key (e ∷ es) ≡ []) ⊎ P key}
    (λ yes. inr (subst P (eqb-true e.event.key key (and_parts (is_step e.event.kind) (e.event.key == key) yes).1) (own 0 e refl)))
    (λ no. ⊎_elim {C = (steps_of key (e ∷ es) ≡ []) ⊎ P key}
    (λ rest. inl (ap (λ b. if b then e.event.kind ∷ steps_of key es else steps_of key es) no ∙ rest))
    (λ holds. inr holds)
    (step_or_none P key es (λ p x at. own (suc p) x at)))
    (cases_Bool (is_step e.event.kind && (e.event.key == key)))

-- ---- ids and their parents

pub last_segment : (id : List SegmentView) → 0 < length id → (s : SegmentView) × (id ≡ parent_of id ++ s ∷ [])
last_segment [] h = let no : ⊥ = omega (arith, h) in absurd no
last_segment (x ∷ []) h = (x, refl)
last_segment (x ∷ (y ∷ ys)) h =
    let rest = last_segment (y ∷ ys) (omega arith) in
    let one : suc (length (y ∷ ys) - 1) ≡ length (x ∷ (y ∷ ys)) - 1 = omega arith in
    (rest.0, ap (λ l. x ∷ l) rest.1 ∙ ap (λ n. take n (x ∷ (y ∷ ys)) ++ rest.0 ∷ []) one)
