-- The table's map, by the texts of ids.
use Rattle.std.specs.Prelude.{bytes_eq, slice_get, IfSome}
use Rattle.std.proofs.Common.{◌≡◌, ◌↔◌, IsTrue, is_some, ℕ, zero, suc, ◌+◌, ◌<◌, ◌≤◌, true, false, cond, List, [], ◌∷◌, ◌++◌, length, map, get_or, Option, Some, None, refl, sym, ap, ◌∙◌, subst, arith, ⊎_elim, Result, Ok, Err}
use Rattle.std.specs.List.{AllByRecursion, IsDistinct, position, position_or_len}
use Rattle.std.proofs.lemmas.Option.{same_Some, none-some, slice_get-get_or, slice_get_within, get_or_from_slice_get}
use Rattle.std.proofs.lemmas.List.Quantifiers.{position-Some}
use Rattle.std.proofs.lemmas.List.Sums.{fails_before_first}
use Rattle.std.proofs.lemmas.Bool.{false≢true, cases_lt, lt-ltb, cond_both}
use Rattle.std.proofs.lemmas.Slice.Eq.{bytes_eq-Decides}
use Rattle.tk_ids.specs.declared.descriptors.Descriptor.{Descriptor}
use Rattle.std.proofs.lemmas.List.{length-append, length-map, map-append}
use Rattle.indexmap.specs.IndexMap.{insert_entry}
use Rattle.tk_ids.specs.declared.descriptors.DType.{DType}
use Rattle.tk_ids.specs.declared.tables.TableFault.{TableFault}
use Rattle.tk_ids.specs.declared.tables.TableFault.TheVariants.{NoParent, Twice, Full, Id, Memory}
use Rattle.tk_ids.specs.declared.id_faults.IdFault.TheVariants as id_faults
use Rattle.tk_ids.specs.IdText.{SegmentView, IsId, id_text, FitsLimits}
use Rattle.tk_ids.specs.Table.{ids_of, HasId, AreDifferent, IsKept, child_id, addition, IsAddedAs}
use Rattle.tk_ids.specs.Table.{HasParent, IsInsertedAs}
use Rattle.tk_ids.specs.steps.Table.{IsChildId, IsFreeAs, IsInsertableAs}
use Rattle.tk_ids.proofs.ReadingLemmas.{text_is_unique}

abbrev pub texts : List (List ℕ × Descriptor) → List (List ℕ)
texts es = map (λ e. e.0) es

abbrev pub descriptors : List (List ℕ × Descriptor) → List Descriptor
descriptors es = map (λ e. e.1) es

pub text_at : (es : List (List ℕ × Descriptor)) (k : ℕ) (id : List SegmentView) → AllByRecursion IsKept es → slice_get (ids_of (descriptors es)) k ≡ Some id → slice_get (texts es) k ≡ Some (id_text id)
text_at [] k id all e = absurd (none-some id e)
text_at (x ∷ es) zero id all e = ap Some (all.0.0 ∙ ap id_text (same_Some x.1.id id e))
text_at (x ∷ es) (suc k) id all e = text_at es k id all.1 e

pub id_at : (es : List (List ℕ × Descriptor)) (k : ℕ) (id : List SegmentView) → AllByRecursion IsKept es → IsId id → slice_get (texts es) k ≡ Some (id_text id) → slice_get (ids_of (descriptors es)) k ≡ Some id
id_at [] k id all ok e = absurd (none-some (id_text id) e)
id_at (x ∷ es) zero id all ok e = ap Some (text_is_unique x.1.id id all.0.1 ok (sym all.0.0 ∙ same_Some x.0 (id_text id) e))
id_at (x ∷ es) (suc k) id all ok e = id_at es k id all.1 ok e

pub at_position : (t : List ℕ) (ks : List (List ℕ)) (k : ℕ) → position (bytes_eq t) ks ≡ Some k → slice_get ks k ≡ Some t
at_position t ks k e =
    let h = position-Some (bytes_eq t) ks k [] e in
    let at : t ≡ get_or ks k [] = (bytes_eq-Decides t (get_or ks k [])).0 h.1 in
    slice_get-get_or ks k [] h.0 ∙ ap Some (sym at)

pub no_position : (t : List ℕ) (ks : List (List ℕ)) (k : ℕ) → position (bytes_eq t) ks ≡ None → slice_get ks k ≡ Some t → ⊥
no_position t ks k e at =
    let within = slice_get_within ks k t at in
    ⊎_elim {C = ⊥}
    (λ (lt : position_or_len (bytes_eq t) ks < length ks).
    none-some (position_or_len (bytes_eq t) ks) (sym e ∙ ap (λ b. cond b (Some (position_or_len (bytes_eq t) ks)) None) (lt-ltb _ _ lt)))
    (λ (le : length ks ≤ position_or_len (bytes_eq t) ks).
    let fails = fails_before_first (bytes_eq t) ks k [] (omega arith) in
    let here : get_or ks k [] ≡ t = get_or_from_slice_get ks k t [] at in
    false≢true (sym fails ∙ (bytes_eq-Decides t (get_or ks k [])).1 (sym here)))
    (cases_lt (position_or_len (bytes_eq t) ks) (length ks))

differs_at : (t : List ℕ) (ks : List (List ℕ)) (k : ℕ) (u : List ℕ) → AllByRecursion (λ y. bytes_eq t y ≡ false) ks → slice_get ks k ≡ Some u → bytes_eq t u ≡ false
differs_at t [] k u all e = absurd (none-some u e)
differs_at t (x ∷ ks) zero u all e = subst (λ y. bytes_eq t y ≡ false) (same_Some x u e) all.0
differs_at t (x ∷ ks) (suc k) u all e = differs_at t ks k u all.1 e

pub same_position : (ks : List (List ℕ)) (j k : ℕ) (t : List ℕ) → IsDistinct bytes_eq ks → slice_get ks j ≡ Some t → slice_get ks k ≡ Some t → j ≡ k
unfolding IsDistinct
same_position [] j k t h a b = absurd (none-some t a)
same_position (x ∷ ks) zero zero t h a b = refl
same_position (x ∷ ks) zero (suc k) t h a b = absurd (false≢true (sym (differs_at x ks k t h.0 b) ∙ (bytes_eq-Decides x t).1 (same_Some x t a)))
same_position (x ∷ ks) (suc j) zero t h a b = absurd (false≢true (sym (differs_at x ks j t h.0 a) ∙ (bytes_eq-Decides x t).1 (same_Some x t b)))
same_position (x ∷ ks) (suc j) (suc k) t h a b = ap suc (same_position ks j k t h.1 a b)

pub different : (es : List (List ℕ × Descriptor)) → AllByRecursion IsKept es → IsDistinct bytes_eq (texts es) → AreDifferent (descriptors es)
different es all h j k id a b = same_position (texts es) j k (id_text id) h (text_at es j id all a) (text_at es k id all b)

pub AllByRecursion-push-kept : (es : List (List ℕ × Descriptor)) (e : List ℕ × Descriptor) → AllByRecursion IsKept es → IsKept e → AllByRecursion IsKept (es ++ e ∷ [])
AllByRecursion-push-kept [] e all ok = (ok, tt)
AllByRecursion-push-kept (x ∷ es) e all ok = (all.0, AllByRecursion-push-kept es e all.1 ok)

pub find_none : (es : List (List ℕ × Descriptor)) (table : List Descriptor) (id : List SegmentView) (t : List ℕ) → AllByRecursion IsKept es → descriptors es ≡ table → t ≡ id_text id → position (bytes_eq t) (texts es) ≡ None → HasId table id → ⊥
find_none es table id t all view is e has =
    no_position t (texts es) has.0 e
    (text_at es has.0 id all (subst (λ d. slice_get (ids_of d) has.0 ≡ Some id) (sym view) has.1) ∙ ap Some (sym is))

pub find_some : (es : List (List ℕ × Descriptor)) (table : List Descriptor) (id : List SegmentView) (t : List ℕ) (k : ℕ) → AllByRecursion IsKept es → descriptors es ≡ table → t ≡ id_text id → IsId id → position (bytes_eq t) (texts es) ≡ Some k → slice_get (ids_of table) k ≡ Some id
find_some es table id t k all view is ok e =
    subst (λ d. slice_get (ids_of d) k ≡ Some id) view (id_at es k id all ok (at_position t (texts es) k e ∙ ap Some is))

pub find_different : (es : List (List ℕ × Descriptor)) (table : List Descriptor) → AllByRecursion IsKept es → descriptors es ≡ table → IsDistinct bytes_eq (texts es) → AreDifferent table
find_different es table all view h = subst AreDifferent view (different es all h)

-- a text that no entry has goes last
pub insert_new : (es : List (List ℕ × Descriptor)) (t : List ℕ) (d : Descriptor) → ((k : ℕ) → slice_get (texts es) k ≡ Some t → ⊥) → insert_entry bytes_eq es t d ≡ es ++ (t, d) ∷ []
insert_new [] t d absent = refl
insert_new (x ∷ es) t d absent =
    cond_both (bytes_eq t x.0) _ _ (λ l. l ≡ x ∷ es ++ (t, d) ∷ [])
    (λ e. absurd (absent 0 (ap Some (sym ((bytes_eq-Decides t x.0).0 e)))))
    (λ _. ap (λ l. x ∷ l) (insert_new es t d (λ k at. absent (suc k) at)))

pub kept_fits : (es : List (List ℕ × Descriptor)) (k : ℕ) (id : List SegmentView) → AllByRecursion IsKept es → slice_get (ids_of (descriptors es)) k ≡ Some id → FitsLimits id
kept_fits [] k id all e = absurd (none-some id e)
kept_fits (x ∷ es) zero id all e = subst FitsLimits (same_Some x.1.id id e) all.0.2
kept_fits (x ∷ es) (suc k) id all e = kept_fits es k id all.1 e

-- an id beyond the limits is in no table
too_long_absent : (es : List (List ℕ × Descriptor)) (table : List Descriptor) (id : List SegmentView) → AllByRecursion IsKept es → descriptors es ≡ table → ¬ (FitsLimits id) → ¬ (HasId table id)
too_long_absent es table id all view long has =
    long (kept_fits es has.0 id all (subst (λ d. slice_get (ids_of d) has.0 ≡ Some id) (sym view) has.1))

-- an id whose key was found is there
pub is_there : (table : List Descriptor) (id : List SegmentView) (key : Option ℕ) → IfSome key (λ k. slice_get (ids_of table) k ≡ Some id) → is_some key ≡ true → HasId table id
is_there table id (Some k) at found = (k, at)
is_there table id None at found = absurd cc

-- what making the id refuses, adding refuses
pub added_refused : (es : List (List ℕ × Descriptor)) (table : List Descriptor) (parent : Option ℕ) (segment : SegmentView) (name : List ℕ) (dtype : DType) (fault : TableFault) → AllByRecursion IsKept es → descriptors es ≡ table → IsChildId table parent segment (Err fault) → IsAddedAs table table (addition parent segment name dtype) (Err fault)
added_refused es table parent segment name dtype NoParent all view h = (h, refl)
added_refused es table parent segment name dtype Twice all view h = absurd h
added_refused es table parent segment name dtype Full all view h =
    (h.0, h.1, too_long_absent es table h.0 all view h.2, h.3, refl)
added_refused es table parent segment name dtype (Id id_faults.TooLong) all view h =
    (h.0, h.1, too_long_absent es table h.0 all view h.2, h.2, h.3, refl)
added_refused es table parent segment name dtype (Id id_faults.Empty) all view h = absurd h
added_refused es table parent segment name dtype (Id (id_faults.BadSegment n)) all view h = absurd h
added_refused es table parent segment name dtype (Id (id_faults.BadEscape n)) all view h = absurd h
added_refused es table parent segment name dtype (Id id_faults.Memory) all view h = absurd h
added_refused es table parent segment name dtype Memory all view h = refl

-- the table's map with one entry more
pub record IsGrown (es new : List (List ℕ × Descriptor)) (table : List Descriptor) (d : Descriptor) : Type 0 where
  pub kept : AllByRecursion IsKept new
  pub count : length new ≡ length table + 1
  pub view : descriptors new ≡ table ++ d ∷ []

pub grown : (es : List (List ℕ × Descriptor)) (table : List Descriptor) (d : Descriptor) (t : List ℕ) → AllByRecursion IsKept es → descriptors es ≡ table → ¬ HasId table d.id → IsKept (t, d) → IsGrown es (insert_entry bytes_eq es t d) table d
grown es table d t all view absent ok =
    let new : insert_entry bytes_eq es t d ≡ es ++ (t, d) ∷ [] =
    insert_new es t d (λ k at. absent (k, subst (λ l. slice_get (ids_of l) k ≡ Some d.id) view (id_at es k d.id all ok.1 (at ∙ ap Some ok.0)))) in
    record {
      kept = subst (AllByRecursion IsKept) (sym new) (AllByRecursion-push-kept es (t, d) all ok);
      count = ap length new ∙ (let same : length es ≡ length table = sym (length-map es (λ e. e.1)) ∙ ap length view in simp length-append (omega arith));
      view = ap descriptors new ∙ map-append (λ e. e.1) es ((t, d) ∷ []) ∙ ap (λ l. l ++ d ∷ []) view;
    }

-- the map has a text exactly where some descriptor has the id of that text
pub has_text_exact : (es : List (List ℕ × Descriptor)) (table : List Descriptor) (id : List SegmentView) (t : List ℕ) → AllByRecursion IsKept es → descriptors es ≡ table → t ≡ id_text id → IsId id → IsTrue (is_some (position (bytes_eq t) (texts es))) ↔ HasId table id
has_text_exact es table id t all view is ok =
    elim (position (bytes_eq t) (texts es)) as (λ o. position (bytes_eq t) (texts es) ≡ o → IsTrue (is_some o) ↔ HasId table id) [
      | None ↦ λ e. (λ yes. absurd (false≢true yes), λ has. absurd (find_none es table id t all view is e has))
      | Some k ↦ λ e. (λ _. (k, find_some es table id t k all view is ok e), λ _. refl)
    ] refl

-- a descriptor whose id is refused isn't added, and the table stays
pub added_unless_free : (table : List Descriptor) (parent : Option ℕ) (segment : SegmentView) (name : List ℕ) (dtype : DType) (id : List SegmentView) (fault : TableFault) → child_id table parent segment ≡ Some id → IsFreeAs table id (Err fault)
    → IsAddedAs table table (addition parent segment name dtype) (Err fault)
added_unless_free table parent segment name dtype id NoParent is h = absurd h
added_unless_free table parent segment name dtype id Twice is h = (id, is, h, refl)
added_unless_free table parent segment name dtype id Full is h = (id, is, h.0, h.1, refl)
added_unless_free table parent segment name dtype id (Id fault) is h = absurd h
added_unless_free table parent segment name dtype id Memory is h = absurd h

pub insertable : (table : List Descriptor) (id : List SegmentView) (answer : Result (Unit {0}) TableFault) → HasParent table id → IsFreeAs table id answer → IsInsertableAs table id answer
insertable table id (Ok x) parent h = (parent, h)
insertable table id (Err NoParent) parent h = absurd h
insertable table id (Err Twice) parent h = (parent, h)
insertable table id (Err Full) parent h = (parent, h)
insertable table id (Err (Id fault)) parent h = absurd h
insertable table id (Err Memory) parent h = absurd h

-- nor is one inserted
pub inserted_unless_free : (table : List Descriptor) (d : Descriptor) (fault : TableFault) → IsInsertableAs table d.id (Err fault) → IsInsertedAs table table d (Err fault)
inserted_unless_free table d NoParent h = (h, refl)
inserted_unless_free table d Twice h = (h.0, h.1, refl)
inserted_unless_free table d Full h = (h.0, h.1.0, h.1.1, refl)
inserted_unless_free table d (Id fault) h = absurd h.1
inserted_unless_free table d Memory h = refl
