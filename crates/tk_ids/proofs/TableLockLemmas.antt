-- Tables to whose descriptors locks are added, and what holds of the parents and the locks of each.
use Rattle.std.specs.Prelude.{slice_get, option_map, ◌==◌}
use Rattle.std.proofs.Common.{◌≡◌, ℕ, zero, suc, ◌<◌, ◌≤◌, List, [], ◌∷◌, ◌++◌, length, ◌-◌, take, Bool, false, Option, Some, None, refl, sym, ap, ◌∙◌, subst, arith, ◌⊎◌, inl, inr, ⊎_elim}
use Rattle.std.specs.List.{AllByRecursion}
use Rattle.indexmap.specs.IndexMap.{set_value_at}
use Rattle.std.proofs.lemmas.Option.{same_Some, none-some, slice_get_within, slice_get-map}
use Rattle.std.proofs.lemmas.Bool.{false≢true}
use Rattle.std.proofs.Math.Seq.{take-append_seam}
use Rattle.std.proofs.lemmas.List.{map-append, length-map, length-append}
use Rattle.tk_ids.specs.declared.descriptors.Descriptor.{Descriptor}
use Rattle.tk_ids.specs.declared.locks.Lock.{Lock}
use Rattle.tk_ids.specs.declared.tables.TheConstants.{MAX_DESCRIPTORS}
use Rattle.tk_ids.specs.IdText.{SegmentView, parent_of}
use Rattle.tk_ids.specs.Locks.{AreLocks}
use Rattle.tk_ids.specs.Table.{ids_of, HasId, child_id, HasParent, HasParents, HaveLocks, IsKept, locks_at, with_locks}
use Rattle.tk_ids.proofs.TableLemmas.{descriptors}

push_cases : {X : Type 0} (xs : List X) (x y : X) (k : ℕ) → slice_get (xs ++ x ∷ []) k ≡ Some y → (slice_get xs k ≡ Some y) ⊎ ((k ≡ length xs) × (x ≡ y))
push_cases [] x y zero h = inr (refl, same_Some x y h)
push_cases [] x y (suc k) h = absurd (none-some y h)
push_cases (z ∷ xs) x y zero h = inl h
push_cases (z ∷ xs) x y (suc k) h =
    ⊎_elim {C = (slice_get xs k ≡ Some y) ⊎ ((suc k ≡ suc (length xs)) × (x ≡ y))} (λ a. inl a) (λ b. inr (ap suc b.0, b.1)) (push_cases xs x y k h)

push_keeps : {X : Type 0} (xs : List X) (x y : X) (k : ℕ) → slice_get xs k ≡ Some y → slice_get (xs ++ x ∷ []) k ≡ Some y
push_keeps [] x y k h = absurd (none-some y h)
push_keeps (z ∷ xs) x y zero h = h
push_keeps (z ∷ xs) x y (suc k) h = push_keeps xs x y k h

abbrev Above : List (List SegmentView) → Type 0
Above ids =
    (key : ℕ) (id : List SegmentView) → slice_get ids key ≡ Some id → 1 < length id →
    (above : ℕ) × (above < key) × (slice_get ids above ≡ Some (parent_of id))

above_push : (ids : List (List SegmentView)) (id : List SegmentView) → Above ids → (1 < length id → (key : ℕ) × (slice_get ids key ≡ Some (parent_of id))) → Above (ids ++ id ∷ [])
above_push ids id all own key x at more =
    ⊎_elim {C = (above : ℕ) × (above < key) × (slice_get (ids ++ id ∷ []) above ≡ Some (parent_of x))}
    (λ old. let a = all key x old more in (a.0, a.1, push_keeps ids id (parent_of x) a.0 a.2))
    (λ new. let a = own (subst (λ y. 1 < length y) (sym new.1) more) in
    (a.0, subst (λ n. a.0 < n) (sym new.0) (slice_get_within ids a.0 (parent_of id) a.1), subst (λ y. slice_get (ids ++ id ∷ []) a.0 ≡ Some (parent_of y)) new.1 (push_keeps ids id (parent_of id) a.0 a.1)))
    (push_cases ids id x key at)

pub parents_push : (table : List Descriptor) (d : Descriptor) → HasParents table → HasParent table d.id → HasParents (table ++ d ∷ [])
parents_push table d all own = subst Above (sym (map-append (λ d. d.id) table (d ∷ []))) (above_push (ids_of table) d.id all own)

pub locks_push : (table : List Descriptor) (d : Descriptor) → HaveLocks table → AreLocks d.locks → HaveLocks (table ++ d ∷ [])
locks_push [] d all own = (own, tt)
locks_push (x ∷ table) d all own = (all.0, locks_push table d all.1 own)

-- ---- descriptors with other locks

abbrev pub relocked : Descriptor → List Lock → Descriptor
relocked d locks = record { id = d.id; name = d.name; dtype = d.dtype; locks = locks }

ids_with_locks : (table : List Descriptor) (key : ℕ) (locks : List Lock) → ids_of (with_locks table key locks) ≡ ids_of table
ids_with_locks [] key locks = refl
ids_with_locks (d ∷ table) zero locks = refl
ids_with_locks (d ∷ table) (suc key) locks = ap (λ l. d.id ∷ l) (ids_with_locks table key locks)

have_with_locks : (table : List Descriptor) (key : ℕ) (locks : List Lock) → HaveLocks table → AreLocks locks → HaveLocks (with_locks table key locks)
have_with_locks [] key locks all own = tt
have_with_locks (d ∷ table) zero locks all own = (own, all.1)
have_with_locks (d ∷ table) (suc key) locks all own = (all.0, have_with_locks table key locks all.1 own)

pub same_locks : (table : List Descriptor) (key : ℕ) → with_locks table key (locks_at table key) ≡ table
same_locks [] key = refl
same_locks (d ∷ table) zero = refl
same_locks (d ∷ table) (suc key) = ap (λ t. d ∷ t) (same_locks table key)

pub locks_twice : (table : List Descriptor) (key : ℕ) (a b : List Lock) → with_locks (with_locks table key a) key b ≡ with_locks table key b
locks_twice [] key a b = refl
locks_twice (d ∷ table) zero a b = refl
locks_twice (d ∷ table) (suc key) a b = ap (λ t. d ∷ t) (locks_twice table key a b)

pub length_with_locks : (table : List Descriptor) (key : ℕ) (locks : List Lock) → length (with_locks table key locks) ≡ length table
length_with_locks [] key locks = refl
length_with_locks (d ∷ table) zero locks = refl
length_with_locks (d ∷ table) (suc key) locks = ap suc (length_with_locks table key locks)

pub locks_found : (table : List Descriptor) (key : ℕ) (d : Descriptor) → slice_get table key ≡ Some d → d.locks ≡ locks_at table key
locks_found [] key d h = absurd (none-some d h)
locks_found (x ∷ table) zero d h = ap (λ e. e.locks) (sym (same_Some x d h))
locks_found (x ∷ table) (suc key) d h = locks_found table key d h

-- the map's entries with other locks at an index
pub record IsRelocked (new : List (List ℕ × Descriptor)) (table : List Descriptor) (key : ℕ) (locks : List Lock) : Type 0 where
  pub view : descriptors new ≡ with_locks table key locks
  pub kept : AllByRecursion IsKept new
  pub count : length new ≤ MAX_DESCRIPTORS
  pub parents : HasParents (descriptors new)
  pub locks_are : HaveLocks (descriptors new)

view_set : (es : List (List ℕ × Descriptor)) (key : ℕ) (d : Descriptor) (locks : List Lock) → slice_get (descriptors es) key ≡ Some d → descriptors (set_value_at es key (relocked d locks)) ≡ with_locks (descriptors es) key locks
view_set [] key d locks h = refl
view_set (e ∷ es) zero d locks h = ap (λ x. relocked x locks ∷ descriptors es) (sym (same_Some e.1 d h))
view_set (e ∷ es) (suc key) d locks h = ap (λ l. e.1 ∷ l) (view_set es key d locks h)

kept_set : (es : List (List ℕ × Descriptor)) (key : ℕ) (d : Descriptor) (locks : List Lock) → slice_get (descriptors es) key ≡ Some d → AllByRecursion IsKept es → AllByRecursion IsKept (set_value_at es key (relocked d locks))
kept_set [] key d locks h all = tt
kept_set (e ∷ es) zero d locks h all =
    (subst (λ x. IsKept (e.0, relocked x locks)) (same_Some e.1 d h) all.0, all.1)
kept_set (e ∷ es) (suc key) d locks h all = (all.0, kept_set es key d locks h all.1)

count_set : (es : List (List ℕ × Descriptor)) (key : ℕ) (w : Descriptor) → length (set_value_at es key w) ≡ length (descriptors es)
count_set [] key w = refl
count_set (e ∷ es) zero w = ap suc (count_all es)
  where
    count_all : (es : List (List ℕ × Descriptor)) → length es ≡ length (descriptors es)
    count_all [] = refl
    count_all (e ∷ es) = ap suc (count_all es)
count_set (e ∷ es) (suc key) w = ap suc (count_set es key w)

pub found_within : (es : List (List ℕ × Descriptor)) (table : List Descriptor) (key : ℕ) → descriptors es ≡ table → key < length table → key < length es
found_within es table key is h = let same : length (descriptors es) ≡ length es = length-map es (λ e. e.1) in let view = ap length is in omega (arith, h, same, view)

pub relocks : (es : List (List ℕ × Descriptor)) (table : List Descriptor) (key : ℕ) (d : Descriptor) (locks : List Lock) → descriptors es ≡ table → slice_get table key ≡ Some d → AllByRecursion IsKept es → length es ≤ MAX_DESCRIPTORS → HasParents table → HaveLocks table → AreLocks locks → IsRelocked (set_value_at es key (relocked d locks)) table key locks
relocks es table key d locks is at kept short parents have own =
    let at-es : slice_get (descriptors es) key ≡ Some d = subst (λ t. slice_get t key ≡ Some d) (sym is) at in
    let view : descriptors (set_value_at es key (relocked d locks)) ≡ with_locks table key locks = view_set es key d locks at-es ∙ ap (λ t. with_locks t key locks) is in
    record {
      view = view;
      kept = kept_set es key d locks at-es kept;
      count = (let same = count_set es key (relocked d locks) in let all : length (descriptors es) ≡ length es = length-map es (λ e. e.1) in omega (arith, same, all, short));
      parents = subst HasParents (sym view) (subst Above (sym (ids_with_locks table key locks)) parents);
      locks_are = subst HaveLocks (sym view) (have_with_locks table key locks have own);
    }

-- taking the locks out of a table and putting them back, as they were or with other ones
pub restored : (table t u : List Descriptor) (key : ℕ) (none old now : List Lock) → old ≡ locks_at table key → t ≡ with_locks table key none → now ≡ old → u ≡ with_locks t key now → u ≡ table
restored table t u key none old now a b c d = d ∙ ap (λ x. with_locks x key now) b ∙ locks_twice table key none now ∙ ap (with_locks table key) (c ∙ a) ∙ same_locks table key

pub put_back : (table t u : List Descriptor) (key : ℕ) (none now : List Lock) → t ≡ with_locks table key none → u ≡ with_locks t key now → u ≡ with_locks table key now
put_back table t u key none now b d = d ∙ ap (λ x. with_locks x key now) b ∙ locks_twice table key none now

pub child_has_parent : (table : List Descriptor) (parent : Option ℕ) (segment : SegmentView) (id : List SegmentView) → child_id table parent segment ≡ Some id → HasParent table id
child_has_parent table None segment id is more =
    let one : segment ∷ [] ≡ id = same_Some (segment ∷ []) id is in
    let count : 1 ≡ length id = ap length one in
    absurd (omega (arith, more, count))
child_has_parent table (Some parent) segment id is more = by (slice_get table parent) refl
  where
    by : (o : Option Descriptor) → slice_get table parent ≡ o → HasId table (parent_of id)
    by None e = absurd (none-some id (sym (ap (option_map (λ d. d.id ++ segment ∷ [])) e) ∙ is))
    by (Some d) e =
        let made : d.id ++ segment ∷ [] ≡ id = same_Some (d.id ++ segment ∷ []) id (sym (ap (option_map (λ d. d.id ++ segment ∷ [])) e) ∙ is) in
        let count : length (d.id ++ segment ∷ []) - 1 ≡ length d.id = (let sum = length-append d.id (segment ∷ []) in omega (arith, sum)) in
        let above : parent_of (d.id ++ segment ∷ []) ≡ d.id = ap (λ n. take n (d.id ++ segment ∷ [])) count ∙ take-append_seam d.id (segment ∷ []) in
        (parent, slice_get-map (λ d. d.id) table parent ∙ ap (option_map (λ d. d.id)) e ∙ ap Some (sym above ∙ ap parent_of made))

pub not_empty : (b : Bool) (n : ℕ) → b ≡ false → b ≡ (n == 0) → 0 < n
not_empty b zero e f = absurd (false≢true (sym e ∙ f))
not_empty b (suc n) e f = omega arith
