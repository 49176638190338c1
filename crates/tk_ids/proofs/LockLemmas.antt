-- Locks in the order of their names.
use Rattle.std.specs.Prelude.{bytes_eq}
use Rattle.std.proofs.Common.{◌≡◌, ℕ, zero, suc, ◌<◌, ◌≤◌, Bool, true, false, cond, List, [], ◌∷◌, length, Some, None, refl, sym, ap, ◌∙◌, subst, arith, is_lt, is_eq, nat_cmp, slice_index_or, slice_set, Ordering, Less, Equal, Greater}
use Rattle.std.specs.List.{AllByRecursion, insert}
use Rattle.std.specs.List.Sorted.{IsStrictlySortedBy, IsPartitionedBy}
use Rattle.std.specs.Ordering.{ordering_reverse}
use Rattle.std.specs.Cmp.Lexicographic.{slice_cmp}
use Rattle.std.proofs.lemmas.Bool.{false≢true, cond_both}
use Rattle.std.proofs.lemmas.Cmp.{nat_list_cmp_total}
use Rattle.std.proofs.lemmas.Slice.Eq.{bytes_eq-Decides}
use Rattle.std.proofs.lemmas.Map.Text.{is_eq-slice_cmp}
use Rattle.tk_ids.specs.declared.locks.Lock.{Lock}
use Rattle.tk_ids.specs.declared.locks.LockMode.{LockMode}
use Rattle.tk_ids.specs.Locks.{AreLocks, is_before, lock_names, mode_of, mode_with, stronger}
use Rattle.tk_ids.specs.steps.Table.{added}

abbrev order : List ℕ → List ℕ → Ordering
order x y = slice_cmp nat_cmp x y

pub less_is : (r : Ordering) → is_lt r ≡ true → r ≡ Less
less_is Less h = refl
less_is Equal h = absurd (false≢true h)
less_is Greater h = absurd (false≢true h)

pub before_is : (x y : List ℕ) → is_before x y ≡ true → order x y ≡ Less
before_is x y h = less_is (order x y) h

pub is_before_less : (x y : List ℕ) → order x y ≡ Less → is_before x y ≡ true
is_before_less x y h = ap is_lt h

-- of two texts that differ, where the first doesn't come before the second, the second does
after_is : (x y : List ℕ) → is_before x y ≡ false → bytes_eq x y ≡ false → order y x ≡ Less
after_is x y h other = by (order x y) refl
  where
    by : (r : Ordering) → order x y ≡ r → order y x ≡ Less
    by Less e = absurd (false≢true (sym h ∙ ap is_lt e))
    by Equal e = absurd (false≢true (sym other ∙ sym (is_eq-slice_cmp x y) ∙ ap is_eq e))
    by Greater e = nat_list_cmp_total.antisymm y x ∙ ap ordering_reverse e

differs : (x y : List ℕ) → order x y ≡ Less → bytes_eq x y ≡ false
differs x y h = sym (is_eq-slice_cmp x y) ∙ ap is_eq h

pub parted : (ls : List Lock) (name : List ℕ) → IsStrictlySortedBy (slice_cmp nat_cmp) (lock_names ls) → IsPartitionedBy (λ l. is_before l.name name) ls
unfolding IsStrictlySortedBy
parted [] name s i j d a b h = absurd (omega arith)
parted (l ∷ ls) name s zero zero d a b h = h
parted (l ∷ ls) name s zero (suc j) d a b h =
    is_before_less l.name name (nat_list_cmp_total.trans l.name _ name (all_at (λ y. order l.name y ≡ Less) ls j d s.0 (omega (arith, b))) (before_is _ name h))
  where
    all_at : (P : List ℕ → Type 0) (ls : List Lock) (j : ℕ) (d : Lock) → AllByRecursion P (lock_names ls) → j < length ls → P (slice_index_or ls j d).name
    all_at P [] j d all k = absurd (omega arith)
    all_at P (m ∷ ms) zero d all k = all.0
    all_at P (m ∷ ms) (suc j) d all k = all_at P ms j d all.1 (omega (arith, k))
parted (l ∷ ls) name s (suc i) zero d a b h = absurd (omega arith)
parted (l ∷ ls) name s (suc i) (suc j) d a b h = parted ls name s.1 i j d (omega (arith, a)) (omega (arith, b)) h

pub all_less : (x y : List ℕ) (ls : List (List ℕ)) → order x y ≡ Less → AllByRecursion (λ z. order y z ≡ Less) ls → AllByRecursion (λ z. order x z ≡ Less) ls
all_less x y [] h all = tt
all_less x y (z ∷ ls) h all = (nat_list_cmp_total.trans x y z h all.0, all_less x y ls h all.1)

all_added : (P : List ℕ → Type 0) (ls : List Lock) (l : Lock) → AllByRecursion P (lock_names ls) → P l.name → AllByRecursion P (lock_names (added ls l))
all_added P [] l all p = (p, tt)
all_added P (m ∷ ls) l all p =
    cond_both (is_before m.name l.name) _ _ (λ x. AllByRecursion P (lock_names x))
    (λ e. (all.0, all_added P ls l all.1 p))
    (λ e. cond_both (bytes_eq m.name l.name) _ _ (λ x. AllByRecursion P (lock_names x)) (λ e. all) (λ e. (p, all)))

sorted_added : (ls : List Lock) (l : Lock) → IsStrictlySortedBy (slice_cmp nat_cmp) (lock_names ls) → IsStrictlySortedBy (slice_cmp nat_cmp) (lock_names (added ls l))
unfolding IsStrictlySortedBy
sorted_added [] l s = (tt, tt)
sorted_added (m ∷ ls) l s =
    cond_both (is_before m.name l.name) _ _ (λ x. IsStrictlySortedBy (slice_cmp nat_cmp) (lock_names x))
    (λ e. (all_added (λ y. order m.name y ≡ Less) ls l s.0 (before_is m.name l.name e), sorted_added ls l s.1))
    (λ e. cond_both (bytes_eq m.name l.name) _ _ (λ x. IsStrictlySortedBy (slice_cmp nat_cmp) (lock_names x))
    (λ same. s)
    (λ other. let less = after_is m.name l.name e other in ((less, all_less l.name m.name (lock_names ls) less s.0), s)))

-- a lock that has a name keeps the order in its place
pub are_added : (ls : List Lock) (l : Lock) → AreLocks ls → 0 < length l.name → AreLocks (added ls l)
are_added ls l are named = record { sorted = sorted_added ls l are.sorted; named = all_added (λ name. 0 < length name) ls l are.named named }

-- no lock has a name before all of theirs
pub none_before : (ls : List Lock) (name : List ℕ) → AllByRecursion (λ y. order name y ≡ Less) (lock_names ls) → mode_of ls name ≡ None
none_before [] name all = refl
none_before (l ∷ ls) name all =
    cond_both (bytes_eq l.name name) _ _ (λ x. x ≡ None)
    (λ same. absurd (false≢true (sym (differs name l.name all.0) ∙ (bytes_eq-Decides name l.name).1 (sym ((bytes_eq-Decides l.name name).0 same)))))
    (λ other. none_before ls name all.1)

-- the modes of the names where one lock more is there
pub mode_added : (ls : List Lock) (l : Lock) (name : List ℕ) → IsStrictlySortedBy (slice_cmp nat_cmp) (lock_names ls) → mode_of (added ls l) name ≡ mode_with ls l name
unfolding IsStrictlySortedBy
mode_added [] l name s = refl
mode_added (m ∷ ls) l name s =
    cond_both (is_before m.name l.name) _ _ (λ x. mode_of x name ≡ mode_with (m ∷ ls) l name)
    (λ e. ap (cond (bytes_eq m.name name) (Some m.mode)) (mode_added ls l name s.1) ∙ apart e (bytes_eq m.name name) (bytes_eq l.name name) refl refl)
    (λ e. cond_both (bytes_eq m.name l.name) _ _ (λ x. mode_of x name ≡ mode_with (m ∷ ls) l name)
    (λ is. same is (bytes_eq m.name name) refl)
    (λ other. first (after_is m.name l.name e other) (bytes_eq l.name name) refl))
  where
    apart : is_before m.name l.name ≡ true → (b c : Bool) → bytes_eq m.name name ≡ b → bytes_eq l.name name ≡ c
        → cond (bytes_eq m.name name) (Some m.mode) (mode_with ls l name) ≡ mode_with (m ∷ ls) l name
    apart e true true f g =
        let is : m.name ≡ l.name = (bytes_eq-Decides m.name name).0 f ∙ sym ((bytes_eq-Decides l.name name).0 g) in
        absurd (false≢true (sym (differs m.name l.name (before_is m.name l.name e)) ∙ (bytes_eq-Decides m.name l.name).1 is))
    apart e true false f g = rw (f, g) refl
    apart e false true f g = rw (f, g) refl
    apart e false false f g = rw (f, g) refl

    same : bytes_eq m.name l.name ≡ true → (b : Bool) → bytes_eq m.name name ≡ b
        → cond (bytes_eq m.name name) (Some (stronger m.mode l.mode)) (mode_of ls name) ≡ mode_with (m ∷ ls) l name
    same is b f =
        let equal : bytes_eq l.name name ≡ b = ap (λ n. bytes_eq n name) (sym ((bytes_eq-Decides m.name l.name).0 is)) ∙ f in
        by b f equal
      where
        by : (b : Bool) → bytes_eq m.name name ≡ b → bytes_eq l.name name ≡ b
            → cond (bytes_eq m.name name) (Some (stronger m.mode l.mode)) (mode_of ls name) ≡ mode_with (m ∷ ls) l name
        by true f g = rw (f, g) refl
        by false f g = rw (f, g) refl

    first : order l.name m.name ≡ Less → (b : Bool) → bytes_eq l.name name ≡ b
        → cond (bytes_eq l.name name) (Some l.mode) (mode_of (m ∷ ls) name) ≡ mode_with (m ∷ ls) l name
    first less true f =
        let is : l.name ≡ name = (bytes_eq-Decides l.name name).0 f in
        let none : mode_of (m ∷ ls) name ≡ None = none_before (m ∷ ls) name (subst (λ n. AllByRecursion (λ y. order n y ≡ Less) (lock_names (m ∷ ls))) is (less, all_less l.name m.name (lock_names ls) less s.0)) in
        rw (f, none) refl
    first less false f = rw f refl

-- adding a lock at the number of those before it
abbrev pub IsPlace : List Lock → List ℕ → ℕ → Type 0
IsPlace ls name i =
    ((k : ℕ) (d : Lock) → 0 ≤ k → k < i → is_before (slice_index_or ls k d).name name ≡ true)
    × ((k : ℕ) (d : Lock) → i ≤ k → k < length ls → is_before (slice_index_or ls k d).name name ≡ false)

pub set_is_added : (ls : List Lock) (l : Lock) (i : ℕ) (x y : Lock) (mode : LockMode) → i < length ls → IsPlace ls l.name i → ((d : Lock) → bytes_eq (slice_index_or ls i d).name l.name ≡ true)
    → x ≡ slice_index_or ls i x → y ≡ slice_index_or ls i y → mode ≡ stronger y.mode l.mode
    → slice_set ls i (record { name = x.name; mode = mode }) ≡ added ls l
set_is_added [] l i x y mode h p e f g is = absurd (omega arith)
set_is_added (m ∷ ls) l zero x y mode h p e f g is =
    let x-is : x ≡ m = f in
    let y-is : y ≡ m = g in
    let not_before : is_before m.name l.name ≡ false = p.1 0 m (omega arith) (omega arith) in
    let same : bytes_eq m.name l.name ≡ true = e m in
    rw (is, x-is, y-is, not_before, same) refl
set_is_added (m ∷ ls) l (suc i) x y mode h p e f g is =
    let before : is_before m.name l.name ≡ true = p.0 0 m (omega arith) (omega arith) in
    rw before
    (ap (λ x. m ∷ x) (set_is_added ls l i x y mode (omega (arith, h)) (λ k d a b. p.0 (suc k) d (omega arith) (omega (arith, b)), λ k d a b. p.1 (suc k) d (omega (arith, a)) (omega (arith, b))) e f g is))

pub insert_is_added : (ls : List Lock) (l : Lock) (i : ℕ) → i ≤ length ls → IsPlace ls l.name i → ((d : Lock) → i < length ls → bytes_eq (slice_index_or ls i d).name l.name ≡ false)
    → insert ls i l ≡ added ls l
insert_is_added [] l zero h p e = refl
insert_is_added [] l (suc i) h p e = absurd (omega arith)
insert_is_added (m ∷ ls) l zero h p e =
    let not_before : is_before m.name l.name ≡ false = p.1 0 m (omega arith) (omega arith) in
    let other : bytes_eq m.name l.name ≡ false = e m (omega arith) in
    rw (not_before, other) refl
insert_is_added (m ∷ ls) l (suc i) h p e =
    let before : is_before m.name l.name ≡ true = p.0 0 m (omega arith) (omega arith) in
    rw before
    (ap (λ x. m ∷ x) (insert_is_added ls l i (omega (arith, h)) (λ k d a b. p.0 (suc k) d (omega arith) (omega (arith, b)), λ k d a b. p.1 (suc k) d (omega (arith, a)) (omega (arith, b))) (λ d a. e d (omega (arith, a)))))

pub none_are : AreLocks []
unfolding IsStrictlySortedBy
none_are = record { sorted = tt; named = tt }
