-- Owners of ids.
use Rattle.std.proofs.Common.{◌≡◌, ◌&&◌, ℕ, zero, suc, Bool, true, false, if◌then◌else◌, List, []}
use Rattle.std.proofs.Common.{◌∷◌, ◌++◌, length, length-append, Some, None, slice_get, get_or, refl}
use Rattle.std.proofs.Common.{ap, ap₂, ◌∙◌, subst, arith}
use Rattle.std.specs.Prelude.{bytes_eq}
use Rattle.std.specs.Option.{option_map}
use Rattle.std.proofs.lemmas.Option.{same_Some}
use Rattle.std.proofs.lemmas.Slice.Eq.{bytes_eq-Decides}
use Rattle.tk_ids.specs.IdText.{SegmentView, parent_of}
use Rattle.tk_ids.specs.declared.descriptors.Descriptor.{Descriptor}
use Rattle.tk_ids.specs.Table.{AreDifferent, HasId as TableHasId, ids_of}
use Rattle.tk_engine_unit_events.specs.Owners.{key_of, same_id, owner_at, owner_of, owner_within}
use Rattle.tk_engine_lifecycle.proofs.Steps.{one_long}
use Rattle.tk_ids.proofs.ParentIds.{parent_of-child}

both_true : (a b c : Bool) → a ≡ true → b ≡ true → c ≡ true → (a && b && c) ≡ true
both_true true true true p q r = refl
both_true true true false p q r = cc
both_true true false c p q r = cc
both_true false b c p q r = cc

all_true : (a b c : Bool) → (a && b && c) ≡ true → (a ≡ true) × (b ≡ true) × (c ≡ true)
all_true true true true e = (refl, refl, refl)
all_true true true false e = cc
all_true true false c e = cc
all_true false b c e = cc

same_itself : (id : List SegmentView) → same_id id id ≡ true
same_itself [] = refl
same_itself (s ∷ id) = both_true (bytes_eq s.tag s.tag) (bytes_eq s.value s.value) (same_id id id)
    ((bytes_eq-Decides s.tag s.tag).1 refl) ((bytes_eq-Decides s.value s.value).1 refl)
    (same_itself id)

same_is : (a b : List SegmentView) → same_id a b ≡ true → a ≡ b
same_is [] [] e = refl
same_is [] (y ∷ b) e = cc
same_is (x ∷ a) [] e = cc
same_is (x ∷ a) (y ∷ b) e =
    let p = all_true (bytes_eq x.tag y.tag) (bytes_eq x.value y.value) (same_id a b) e in
    ap₂ (λ s l. s ∷ l) (ap₂ (λ t v. record { tag = t; value = v })
    ((bytes_eq-Decides x.tag y.tag).0 p.0) ((bytes_eq-Decides x.value y.value).0 p.1))
    (same_is a b p.2)

-- the key of a static id is the only one with that id
found_step : (b : Bool) (d : Descriptor) (ds : List Descriptor) (k : ℕ) (id : List SegmentView)
    → same_id d.id id ≡ b → (b ≡ true → ⊥) → key_of ds id ≡ Some k
    → (if b then Some 0 else option_map suc (key_of ds id)) ≡ Some (suc k)
found_step true d ds k id is never e = absurd (never refl)
found_step false d ds k id is never e = ap (option_map suc) e

suc_same : (j k : ℕ) → suc j ≡ suc k → j ≡ k
suc_same j k e = omega (arith, e)

pub key_found : (table : List Descriptor) (k : ℕ) (id : List SegmentView)
    → ((j : ℕ) → slice_get (ids_of table) j ≡ Some id → j ≡ k)
    → slice_get (ids_of table) k ≡ Some id → key_of table id ≡ Some k
key_found [] k id only at = cc
key_found (d ∷ ds) zero id only at =
    let same : d.id ≡ id = same_Some _ _ at in
    ap (λ b. if b then Some 0 else option_map suc (key_of ds id))
    (subst (λ x. same_id d.id x ≡ true) same (same_itself d.id))
key_found (d ∷ ds) (suc k) id only at =
    found_step (same_id d.id id) d ds k id refl
    (λ e. omega (arith, only 0 (ap (λ x. Some x) (same_is d.id id e))))
    (key_found ds k id (λ j h. suc_same j k (only (suc j) h)) at)

-- an id that is not static has no key
none_step : (b : Bool) (d : Descriptor) (ds : List Descriptor) (id : List SegmentView)
    → same_id d.id id ≡ b → (b ≡ true → ⊥) → key_of ds id ≡ None
    → (if b then Some 0 else option_map suc (key_of ds id)) ≡ None
none_step true d ds id is never e = absurd (never refl)
none_step false d ds id is never e = ap (option_map suc) e

pub no_key : (table : List Descriptor) (id : List SegmentView) → ¬ TableHasId table id
    → key_of table id ≡ None
no_key [] id n = refl
no_key (d ∷ ds) id n =
    none_step (same_id d.id id) d ds id refl (λ e. n (0, ap (λ x. Some x) (same_is d.id id e)))
    (no_key ds id (λ h. n (suc h.0, h.1)))

-- a static id belongs to the unit of its key
pub owner_static : (table : List Descriptor) (owners : List ℕ) (none k : ℕ) (id : List SegmentView)
    → AreDifferent table → slice_get (ids_of table) k ≡ Some id
    → owner_of table owners none id ≡ get_or owners k none
owner_static table owners none k id different at =
    ap (λ o. owner_at owners none o (owner_within table owners none (length id) (parent_of id)))
    (key_found table k id (λ j h. different j k id h at) at)

-- an id that is not static belongs to the unit of the id above it
pub owner_child : (table : List Descriptor) (owners : List ℕ) (none : ℕ) (id : List SegmentView)
    (s : SegmentView) → ¬ TableHasId table (id ++ s ∷ [])
    → owner_of table owners none (id ++ s ∷ []) ≡ owner_of table owners none id
owner_child table owners none id s n =
    let long : length (id ++ s ∷ []) ≡ suc (length id) = omega
    (arith, length-append id (s ∷ []), one_long s) in
    ap (λ o. owner_at owners none o
    (owner_within table owners none (length (id ++ s ∷ [])) (parent_of (id ++ s ∷ []))))
    (no_key table (id ++ s ∷ []) n)
    ∙ ap₂ (λ n i. owner_within table owners none n i) long (parent_of-child id s)
