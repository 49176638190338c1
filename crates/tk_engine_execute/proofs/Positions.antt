-- Facts of each place of a list.
use Rattle.std.proofs.Common.{◌≡◌, ℕ, zero, suc, arith, map, List, [], ◌∷◌, ◌++◌, length, length-append, Some, slice_get, subst, refl, ap, sym, ◌∙◌, ◌<◌, replicate}
use Rattle.std.proofs.lemmas.Option.{slice_get_within, get_or_from_slice_get}
use Rattle.std.proofs.lemmas.List.{length-replicate, get_or-replicate}
use Rattle.std.specs.Prelude.{All}
use Rattle.std.proofs.lemmas.List.Elements.{All-nil, All-cons, All-head, All-tail}

-- what holds of each element, and of x at the next place, holds of each with x at the end
pub snoc_all : {X : Type 0} (P : ℕ → X → Type 0) (xs : List X) (x : X)
    → ((i : ℕ) (y : X) → slice_get xs i ≡ Some y → P i y) → P (length xs) x
    → (i : ℕ) (y : X) → slice_get (xs ++ x ∷ []) i ≡ Some y → P i y
snoc_all P [] x all last zero y e = let same : x ≡ y = cc in subst (P 0) same last
snoc_all P [] x all last (suc i) y e = cc
snoc_all P (z ∷ xs) x all last zero y e = all 0 y e
snoc_all P (z ∷ xs) x all last (suc i) y e = snoc_all (λ k. P (suc k)) xs x (λ k v h. all (suc k) v h) last i y e

-- what stands in a mapped list is the image of what stands there
pub map_at : {X : Type 0} {Y : Type 0} (f : X → Y) (xs : List X) (i : ℕ) (y : Y) → slice_get (map f xs) i ≡ Some y
    → (x : X) × (slice_get xs i ≡ Some x) × (y ≡ f x)
map_at f [] i y e = cc
map_at f (x ∷ xs) zero y e = (x, refl, cc)
map_at f (x ∷ xs) (suc i) y e = map_at f xs i y e

-- what holds of each place holds of each element
pub all_from : {X : Type 0} (P : X → Type 0) (xs : List X) → ((i : ℕ) (x : X) → slice_get xs i ≡ Some x → P x) → All P xs
all_from P [] each = All-nil P
all_from P (z ∷ xs) each = All-cons P z xs (each 0 z refl) (all_from P xs (λ i. each (suc i)))

-- what holds of each element holds of those before, and of the last
pub all_prefix : {X : Type 0} (P : X → Type 0) (xs : List X) (x : X) → All P (xs ++ x ∷ []) → All P xs
all_prefix P [] x all = All-nil P
all_prefix P (z ∷ xs) x all = All-cons P z xs (All-head P z (xs ++ x ∷ []) all) (all_prefix P xs x (All-tail P z (xs ++ x ∷ []) all))

pub all_last : {X : Type 0} (P : X → Type 0) (xs : List X) (x : X) → All P (xs ++ x ∷ []) → P x
all_last P [] x all = All-head P x [] all
all_last P (z ∷ xs) x all = all_last P xs x (All-tail P z (xs ++ x ∷ []) all)

-- two lists with an element more at their ends are one where their prefixes and their last elements are
pub same_last : {X : Type 0} (xs ys : List X) (x y : X) → xs ++ x ∷ [] ≡ ys ++ y ∷ [] → (xs ≡ ys) × (x ≡ y)
same_last [] [] x y e = (refl, cc)
same_last [] (b ∷ ys) x y e = let n = ap (λ l. length l) e in absurd (omega (arith, length-append ys (y ∷ [])))
same_last (a ∷ xs) [] x y e = let n = ap (λ l. length l) e in absurd (omega (arith, length-append xs (x ∷ [])))
same_last (a ∷ xs) (b ∷ ys) x y e =
    let first : a ≡ b = cc in
    let rest : xs ++ x ∷ [] ≡ ys ++ y ∷ [] = cc in
    let h = same_last xs ys x y rest in
    (let p = h.0 in cc, h.1)

pub replicate_at : {X : Type 0} (n : ℕ) (x : X) (i : ℕ) (y : X) → slice_get (replicate n x) i ≡ Some y → y ≡ x
replicate_at n x i y e =
    let within : i < n = subst (λ k. i < k) (length-replicate n x) (slice_get_within (replicate n x) i y e) in
    sym (get_or_from_slice_get (replicate n x) i y x e) ∙ get_or-replicate n i x x within
