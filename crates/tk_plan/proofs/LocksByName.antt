-- The strongest lock of each name.
use Rattle.std.specs.Prelude.{bytes_eq}
use Rattle.std.proofs.Common.{◌≡◌, ℕ, zero, suc, ◌<◌, ◌==◌, Bool, true, false, cond, not, ◌&&◌, ◌||◌, List, [], ◌∷◌, ◌++◌, length, map, Option, Some, None, refl, sym, ap, ap₂, ◌∙◌, subst, nat_cmp, arith, true≢false, take, get_or, codes, ◌+◌, ◌≤◌, add-one, append_assoc, Ordering, Less, Equal, Greater}
use Rattle.std.specs.List.{AllByRecursion, filter, fold, list_any}
use Rattle.std.specs.List.Sorted.{IsStrictlySortedBy}
use Rattle.std.specs.Ordering.{match_ordering}
use Rattle.std.specs.Cmp.Lexicographic.{slice_cmp}
use Rattle.std.specs.BTreeSet.{insert_key}
use Rattle.std.proofs.Math.Bool.{or_assoc, or_comm, or-false}
use Rattle.std.proofs.Math.Seq.{take-suc}
use Rattle.std.proofs.lemmas.List.{take_all, append-nil}
use Rattle.std.proofs.lemmas.List.Elements.{filter-append}
use Rattle.std.proofs.lemmas.List.Folds.{list_any-append}
use Rattle.tk_ids.specs.declared.locks.Lock.{Lock}
use Rattle.tk_ids.specs.declared.locks.LockMode.{LockMode}
use Rattle.tk_ids.specs.declared.locks.LockMode.TheVariants.{Read, ReadWrite}
use Rattle.tk_plan.specs.declared.trees.nodes.Node.{Node}
use Rattle.tk_ids.specs.Locks.{AreLocks, lock_names, mode_of, mode_with, strengthened}
use Rattle.tk_plan.specs.DeclaredLocks.{has_name, is_for_writing, isolation, asked, is_written, strongest, with_name, names_of, by_name, declared_locks}
use Rattle.tk_plan.proofs.LockOrder.{order, equal_is, greater_is, same_locks}
use Rattle.tk_ids.proofs.LockLemmas.{all_less}
use Rattle.tk_events.proofs.KindLemmas.{same_bytes}

-- ---- names in order, with one more

abbrev insert : List (List ℕ) → List ℕ → List (List ℕ)
insert ks k = insert_key (slice_cmp nat_cmp) ks k

all_inserted : (P : List ℕ → Type 0) (ks : List (List ℕ)) (k : List ℕ) → AllByRecursion P ks → P k → AllByRecursion P (insert ks k)
all_inserted P [] k all p = (p, tt)
all_inserted P (x ∷ xs) k all p = by (all_inserted P xs k all.1 p) (order k x)
  where
    by : AllByRecursion P (insert xs k) → (o : Ordering) → AllByRecursion P (match_ordering o (k ∷ x ∷ xs) (x ∷ xs) (x ∷ insert xs k))
    by rest Less = (p, all)
    by rest Equal = all
    by rest Greater = (all.0, rest)

sorted_inserted : (ks : List (List ℕ)) (k : List ℕ) → IsStrictlySortedBy (slice_cmp nat_cmp) ks → IsStrictlySortedBy (slice_cmp nat_cmp) (insert ks k)
unfolding IsStrictlySortedBy
sorted_inserted [] k s = (tt, tt)
sorted_inserted (x ∷ xs) k s = by (sorted_inserted xs k s.1) (order k x) refl
  where
    by : IsStrictlySortedBy (slice_cmp nat_cmp) (insert xs k) → (o : Ordering) → order k x ≡ o → IsStrictlySortedBy (slice_cmp nat_cmp) (match_ordering o (k ∷ x ∷ xs) (x ∷ xs) (x ∷ insert xs k))
    by rest Less e = ((e, all_less k x xs e s.0), s)
    by rest Equal e = s
    by rest Greater e = (all_inserted (λ y. order x y ≡ Less) xs k s.0 (greater_is k x e), rest)

abbrev stands : List ℕ → List (List ℕ) → Bool
stands name ks = list_any (λ k. bytes_eq k name) ks

stands_inserted : (name : List ℕ) (ks : List (List ℕ)) (k : List ℕ) → stands name (insert ks k) ≡ (stands name ks || bytes_eq k name)
stands_inserted name [] k = or-false (bytes_eq k name)
stands_inserted name (x ∷ xs) k = by (stands_inserted name xs k) (order k x) refl
  where
    by : stands name (insert xs k) ≡ (stands name xs || bytes_eq k name) → (o : Ordering) → order k x ≡ o
        → stands name (match_ordering o (k ∷ x ∷ xs) (x ∷ xs) (x ∷ insert xs k)) ≡ ((bytes_eq x name || stands name xs) || bytes_eq k name)
    by rest Less e = or_comm (bytes_eq k name) (bytes_eq x name || stands name xs)
    by rest Equal e = again (bytes_eq x name) (stands name xs) (bytes_eq k name) (ap (λ n. bytes_eq n name) (sym (equal_is k x e)))
      where
        again : (a b c : Bool) → a ≡ c → (a || b) ≡ ((a || b) || c)
        again true b c h = refl
        again false true c h = refl
        again false false c h = h
    by rest Greater e = ap (λ b. bytes_eq x name || b) rest ∙ sym (or_assoc (bytes_eq x name) (stands name xs) (bytes_eq k name))

-- ---- the names of locks

sorted_with : (ls : List Lock) (names : List (List ℕ)) → IsStrictlySortedBy (slice_cmp nat_cmp) names → IsStrictlySortedBy (slice_cmp nat_cmp) (fold with_name names ls)
sorted_with [] names s = s
sorted_with (l ∷ ls) names s = sorted_with ls (with_name names l) (sorted_inserted names l.name s)

named_with : (ls : List Lock) (names : List (List ℕ)) → AllByRecursion (λ l. 0 < length l.name) ls → AllByRecursion (λ name. 0 < length name) names → AllByRecursion (λ name. 0 < length name) (fold with_name names ls)
named_with [] names all some = some
named_with (l ∷ ls) names all some = named_with ls (with_name names l) all.1 (all_inserted (λ name. 0 < length name) names l.name some all.0)

abbrev is_asked : List Lock → List ℕ → Bool
is_asked ls name = list_any (λ l. bytes_eq l.name name) ls

stands_with : (name : List ℕ) (ls : List Lock) (names : List (List ℕ)) → stands name (fold with_name names ls) ≡ (stands name names || is_asked ls name)
stands_with name [] names = sym (or-false (stands name names))
stands_with name (l ∷ ls) names =
    stands_with name ls (with_name names l)
    ∙ ap (λ b. b || is_asked ls name) (stands_inserted name names l.name)
    ∙ or_assoc (stands name names) (bytes_eq l.name name) (is_asked ls name)

names_mapped : (f : List Lock) (ks : List (List ℕ)) → lock_names (map (strongest f) ks) ≡ ks
names_mapped f [] = refl
names_mapped f (k ∷ ks) = ap (λ l. k ∷ l) (names_mapped f ks)

-- ---- the mode of each name

-- the mode in which some locks ask for a name, if any does
abbrev pub asked_mode : List Lock → List ℕ → Option LockMode
asked_mode ls name = cond (is_asked ls name) (Some (strongest ls name).mode) None

mode_mapped : (ls : List Lock) (name : List ℕ) (ks : List (List ℕ)) → mode_of (map (strongest ls) ks) name ≡ cond (stands name ks) (Some (strongest ls name).mode) None
mode_mapped ls name [] = refl
mode_mapped ls name (k ∷ ks) = by (bytes_eq k name) refl (mode_mapped ls name ks)
  where
    by : (b : Bool) → bytes_eq k name ≡ b → mode_of (map (strongest ls) ks) name ≡ cond (stands name ks) (Some (strongest ls name).mode) None
        → cond b (Some (strongest ls k).mode) (mode_of (map (strongest ls) ks) name) ≡ cond (b || stands name ks) (Some (strongest ls name).mode) None
    by true e rest = ap (λ n. Some (strongest ls n).mode) (same_bytes k name e)
    by false e rest = rest

pub mode_by_name : (ls : List Lock) (name : List ℕ) → mode_of (by_name ls) name ≡ asked_mode ls name
mode_by_name ls name = mode_mapped ls name (names_of ls) ∙ ap (λ b. cond b (Some (strongest ls name).mode) None) (stands_with name ls [])

pub are_by_name : (ls : List Lock) → AllByRecursion (λ l. 0 < length l.name) ls → AreLocks (by_name ls)
unfolding IsStrictlySortedBy
are_by_name ls all =
    record {
      sorted = subst (IsStrictlySortedBy (slice_cmp nat_cmp)) (sym (names_mapped ls (names_of ls))) (sorted_with ls [] tt);
      named = subst (AllByRecursion (λ name. 0 < length name)) (sym (names_mapped ls (names_of ls))) (named_with ls [] all tt);
    }

-- ---- one lock more

written_is_asked : (name : List ℕ) (ls : List Lock) → is_asked ls name ≡ false → is_written ls name ≡ false
written_is_asked name [] e = refl
written_is_asked name (m ∷ ms) e = one (written_is_asked name ms) (bytes_eq m.name name) e
  where
    one : (is_asked ms name ≡ false → is_written ms name ≡ false) → (b : Bool) → (b || is_asked ms name) ≡ false → ((b && is_for_writing m.mode) || is_written ms name) ≡ false
    one rest true e = absurd (true≢false e)
    one rest false e = rest e

pub mode_asked_next : (ls : List Lock) (l : Lock) (name : List ℕ)
    → asked_mode (ls ++ l ∷ []) name ≡ cond (bytes_eq l.name name) (Some (strengthened (asked_mode ls name) l.mode)) (asked_mode ls name)
mode_asked_next ls l name =
    ap₂ (λ x y. cond x (Some (cond y ReadWrite Read)) None)
    (list_any-append (λ m. bytes_eq m.name name) ls (l ∷ []))
    (list_any-append (λ m. bytes_eq m.name name && is_for_writing m.mode) ls (l ∷ []))
    ∙ by ls (bytes_eq l.name name) (is_asked ls name) (is_written ls name) l.mode (written_is_asked name ls)
  where
    by : (ls : List Lock) (b x y : Bool) (m : LockMode) → (x ≡ false → y ≡ false)
        → cond (x || (b || false)) (Some (cond (y || ((b && is_for_writing m) || false)) ReadWrite Read)) None
        ≡ cond b (Some (strengthened (cond x (Some (cond y ReadWrite Read)) None) m)) (cond x (Some (cond y ReadWrite Read)) None)
    by ls true true true Read h = refl
    by ls true true true ReadWrite h = refl
    by ls true true false Read h = refl
    by ls true true false ReadWrite h = refl
    by ls true false y Read h = rw (h refl) refl
    by ls true false y ReadWrite h = rw (h refl) refl
    by ls false true true m h = refl
    by ls false true false m h = refl
    by ls false false y m h = refl

-- ---- what a node declares

all_named : (ls : List Lock) → AllByRecursion (λ l. 0 < length l.name) (filter has_name ls)
all_named [] = tt
all_named (l ∷ ls) = by (length l.name == 0) refl (all_named ls)
  where
    by : (b : Bool) → (length l.name == 0) ≡ b → AllByRecursion (λ l. 0 < length l.name) (filter has_name ls)
        → AllByRecursion (λ l. 0 < length l.name) (cond (not b) (l ∷ filter has_name ls) (filter has_name ls))
    by true e rest = rest
    by false e rest = (long (length l.name) e, rest)
      where
        long : (n : ℕ) → (n == 0) ≡ false → 0 < n
        long zero h = absurd (true≢false h)
        long (suc n) h = omega arith

all_asked : (b : Bool) (ls : List Lock) → AllByRecursion (λ l. 0 < length l.name) (isolation b ++ filter has_name ls)
all_asked true ls = (omega arith, all_named ls)
all_asked false ls = all_named ls

-- locks of these modes are those that the node declares
pub are_declared : (n : Node) (locks : List Lock) → AreLocks locks → ((name : List ℕ) → mode_of locks name ≡ asked_mode (asked n) name) → locks ≡ declared_locks n
unfolding declared_locks
are_declared n locks are modes =
    same_locks locks (by_name (asked n)) are.sorted (are_by_name (asked n) (all_asked n.is_isolated n.locks)).sorted
    (λ name. modes name ∙ sym (mode_by_name (asked n) name))

-- ---- the locks of a node, one after another

pub first_asked : (b : Bool) (name : List ℕ) → mode_of (isolation b) name ≡ asked_mode (isolation b ++ []) name
first_asked false name = refl
first_asked true name = by (bytes_eq (codes "global") name)
  where
    by : (t : Bool) → cond t (Some ReadWrite) None ≡ cond (t || false) (Some (cond ((t && true) || false) ReadWrite Read)) None
    by true = refl
    by false = refl

asked_take : (b : Bool) (ls : List Lock) (i : ℕ) (d : Lock) → i < length ls
    → isolation b ++ filter has_name (take (i + 1) ls) ≡ (isolation b ++ filter has_name (take i ls)) ++ filter has_name (get_or ls i d ∷ [])
asked_take b ls i d lt =
    ap (λ xs. isolation b ++ filter has_name xs) one_more
    ∙ ap (λ xs. isolation b ++ xs) (filter-append has_name (take i ls) (get_or ls i d ∷ []))
    ∙ sym (append_assoc (isolation b) (filter has_name (take i ls)) (filter has_name (get_or ls i d ∷ [])))
  where
    one_more : take (i + 1) ls ≡ take i ls ++ get_or ls i d ∷ []
    one_more = rw add-one (take-suc ls i d lt)

-- a lock that has a name is added
pub named_next : (b : Bool) (ls : List Lock) (i : ℕ) (l : Lock) (old new : List Lock) → i < length ls → l ≡ get_or ls i l → (length l.name == 0) ≡ false
    → ((name : List ℕ) → mode_of old name ≡ asked_mode (isolation b ++ filter has_name (take i ls)) name)
    → ((name : List ℕ) → mode_of new name ≡ mode_with old l name)
    → (name : List ℕ) → mode_of new name ≡ asked_mode (isolation b ++ filter has_name (take (i + 1) ls)) name
named_next b ls i l old new lt its named before adds name =
    adds name
    ∙ ap (λ o. cond (bytes_eq l.name name) (Some (strengthened o l.mode)) o) (before name)
    ∙ sym (mode_asked_next (isolation b ++ filter has_name (take i ls)) l name)
    ∙ ap (λ xs. asked_mode xs name) (sym (asked_take b ls i l lt ∙ ap (λ xs. (isolation b ++ filter has_name (take i ls)) ++ xs) kept))
  where
    kept : filter has_name (get_or ls i l ∷ []) ≡ l ∷ []
    kept = ap (λ m. filter has_name (m ∷ [])) (sym its) ∙ ap (λ t. cond (not t) (l ∷ []) []) named

-- any other is left out
pub unnamed_next : (b : Bool) (ls : List Lock) (i : ℕ) (l : Lock) (locks : List Lock) → i < length ls → l ≡ get_or ls i l → (length l.name == 0) ≡ true
    → ((name : List ℕ) → mode_of locks name ≡ asked_mode (isolation b ++ filter has_name (take i ls)) name)
    → (name : List ℕ) → mode_of locks name ≡ asked_mode (isolation b ++ filter has_name (take (i + 1) ls)) name
unnamed_next b ls i l locks lt its unnamed before name =
    before name
    ∙ ap (λ xs. asked_mode xs name) (sym (asked_take b ls i l lt ∙ ap (λ xs. (isolation b ++ filter has_name (take i ls)) ++ xs) dropped ∙ append-nil (isolation b ++ filter has_name (take i ls))))
  where
    dropped : filter has_name (get_or ls i l ∷ []) ≡ []
    dropped = ap (λ m. filter has_name (m ∷ [])) (sym its) ∙ ap (λ t. cond (not t) (l ∷ []) []) unnamed

-- all of them are what the node declares
pub all_are_declared : (n : Node) (i : ℕ) (locks : List Lock) → length n.locks ≤ i → AreLocks locks
    → ((name : List ℕ) → mode_of locks name ≡ asked_mode (isolation n.is_isolated ++ filter has_name (take i n.locks)) name) → locks ≡ declared_locks n
all_are_declared n i locks all are modes =
    are_declared n locks are (λ name. modes name ∙ ap (λ xs. asked_mode (isolation n.is_isolated ++ filter has_name xs) name) (take_all i n.locks all))
