-- Locks in the byte order of their names are determined by the mode of each name.
use Rattle.std.specs.Prelude.{bytes_eq}
use Rattle.std.proofs.Common.{◌≡◌, ℕ, Bool, true, false, cond, List, [], ◌∷◌, Some, None, refl, sym, ap, ap₂, ◌∙◌, subst, nat_cmp, Ordering, Less, Equal, Greater}
use Rattle.std.specs.List.{AllByRecursion}
use Rattle.std.specs.List.Sorted.{IsStrictlySortedBy}
use Rattle.std.specs.Ordering.{is_eq, ordering_reverse}
use Rattle.std.specs.Cmp.Lexicographic.{slice_cmp}
use Rattle.std.proofs.lemmas.Cmp.{nat_list_cmp_total}
use Rattle.std.proofs.lemmas.Slice.Eq.{bytes_eq-Decides}
use Rattle.std.proofs.lemmas.Map.Text.{is_eq-slice_cmp}
use Rattle.tk_ids.specs.declared.locks.Lock.{Lock}
use Rattle.tk_ids.specs.Locks.{lock_names, mode_of}
use Rattle.tk_ids.proofs.LockLemmas.{all_less, none_before}
use Rattle.tk_events.proofs.KindLemmas.{same_bytes}

abbrev pub order : List ℕ → List ℕ → Ordering
order x y = slice_cmp nat_cmp x y

is_itself : (x : List ℕ) → bytes_eq x x ≡ true
is_itself x = (bytes_eq-Decides x x).1 refl

-- texts that are equal in the order are the same
pub equal_is : (x y : List ℕ) → order x y ≡ Equal → x ≡ y
equal_is x y e = same_bytes x y (sym (is_eq-slice_cmp x y) ∙ ap is_eq e)

-- what comes before another differs from it
pub less_differs : (x y : List ℕ) → order x y ≡ Less → bytes_eq y x ≡ false
less_differs x y e = sym (is_eq-slice_cmp y x) ∙ ap is_eq (nat_list_cmp_total.antisymm y x ∙ ap ordering_reverse e)

pub greater_is : (x y : List ℕ) → order x y ≡ Greater → order y x ≡ Less
greater_is x y e = nat_list_cmp_total.antisymm y x ∙ ap ordering_reverse e

own_mode : (l : Lock) (ls : List Lock) → mode_of (l ∷ ls) l.name ≡ Some l.mode
own_mode l ls = rw (is_itself l.name) refl

pub same_locks : (a b : List Lock) → IsStrictlySortedBy (slice_cmp nat_cmp) (lock_names a) → IsStrictlySortedBy (slice_cmp nat_cmp) (lock_names b) → ((name : List ℕ) → mode_of a name ≡ mode_of b name) → a ≡ b
unfolding IsStrictlySortedBy
same_locks [] [] s t h = refl
same_locks [] (m ∷ b) s t h = let e = h m.name ∙ own_mode m b in cc
same_locks (l ∷ a) [] s t h = let e = sym (h l.name) ∙ own_mode l a in cc
same_locks (l ∷ a) (m ∷ b) s t h = by (λ e. same_locks a b s.1 t.1 e) (order l.name m.name) refl
  where
    none_first : order l.name m.name ≡ Less → mode_of (m ∷ b) l.name ≡ None
    none_first e = none_before (m ∷ b) l.name (e, all_less l.name m.name (lock_names b) e t.0)

    none_second : order m.name l.name ≡ Less → mode_of (l ∷ a) m.name ≡ None
    none_second e = none_before (l ∷ a) m.name (e, all_less m.name l.name (lock_names a) e s.0)

    tail : l.name ≡ m.name → (name : List ℕ) → (b' : Bool) → bytes_eq l.name name ≡ b' → mode_of a name ≡ mode_of b name
    tail is name true e =
        let first : l.name ≡ name = same_bytes l.name name e in
        let second : m.name ≡ name = sym is ∙ first in
        none_before a name (subst (λ n. AllByRecursion (λ y. order n y ≡ Less) (lock_names a)) first s.0)
        ∙ sym (none_before b name (subst (λ n. AllByRecursion (λ y. order n y ≡ Less) (lock_names b)) second t.0))
    tail is name false e =
        let other : bytes_eq m.name name ≡ false = ap (λ n. bytes_eq n name) (sym is) ∙ e in
        sym (ap (λ t. cond t (Some l.mode) (mode_of a name)) e) ∙ h name ∙ ap (λ t. cond t (Some m.mode) (mode_of b name)) other

    by : (((name : List ℕ) → mode_of a name ≡ mode_of b name) → a ≡ b) → (o : Ordering) → order l.name m.name ≡ o → l ∷ a ≡ m ∷ b
    by again Less e = let no : Some l.mode ≡ None = sym (own_mode l a) ∙ h l.name ∙ none_first e in cc
    by again Greater e = let no : Some m.mode ≡ None = sym (own_mode m b) ∙ sym (h m.name) ∙ none_second (greater_is l.name m.name e) in cc
    by again Equal e =
        let is : l.name ≡ m.name = equal_is l.name m.name e in
        let modes : Some l.mode ≡ Some m.mode = sym (own_mode l a) ∙ h l.name ∙ ap (mode_of (m ∷ b)) is ∙ own_mode m b in
        let mode : l.mode ≡ m.mode = cc in
        let rest : a ≡ b = again (λ name. tail is name (bytes_eq l.name name) refl) in
        ap₂ (λ (x : Lock) (y : List Lock). x ∷ y) (λ i. record { name = is i; mode = mode i }) rest
