-- Lists of nothing or of one, and elements by their places.
use Rattle.std.proofs.Common.{◌≡◌, ◌<◌, ℕ, zero, suc, List, [], ◌∷◌, ◌++◌, length, All, Some, slice_get, refl, ap, subst, arith}
use Rattle.std.proofs.lemmas.Option.{same_Some}

pub nil_left : {A : Type 0} (xs ys : List A) → xs ++ ys ≡ [] → xs ≡ []
nil_left [] ys e = refl
nil_left (x ∷ xs) ys e = cc

pub nil_right : {A : Type 0} (xs ys : List A) → xs ++ ys ≡ [] → ys ≡ []
nil_right [] ys e = e
nil_right (x ∷ xs) ys e = cc

pub nil_from_length : {A : Type 0} (xs : List A) → length xs ≡ 0 → xs ≡ []
nil_from_length [] e = refl
nil_from_length (x ∷ xs) e = absurd (omega (arith, e))

pub no_split : {A : Type 0} (xs : List A) (x : A) (ys : List A) → [] ≡ xs ++ x ∷ ys → ⊥
no_split [] x ys e = cc
no_split (y ∷ xs) x ys e = cc

pub get_below : {A : Type 0} (xs : List A) (i : ℕ) → i < length xs → (x : A) × (slice_get xs i ≡ Some x)
get_below [] i h = absurd (omega (arith, h))
get_below (x ∷ xs) zero h = (x, refl)
get_below (x ∷ xs) (suc i) h = get_below xs i (omega (arith, h))

pub get_at_seam : {A : Type 0} (xs ys : List A) (x : A) (k : ℕ) → k ≡ length xs → slice_get (xs ++ x ∷ ys) k ≡ Some x
get_at_seam [] ys x k e = ap (slice_get (x ∷ ys)) e
get_at_seam (z ∷ xs) ys x zero e = absurd (omega (arith, e))
get_at_seam (z ∷ xs) ys x (suc k) e = get_at_seam xs ys x k (omega (arith, e))

pub All_one : {A : Type 0} (P : A → Type 0) (x : A) → P x → All P (x ∷ [])
All_one P x h zero d l = h
All_one P x h (suc k) d l = absurd (omega arith)

pub All_at : {A : Type 0} (P : A → Type 0) (xs : List A) (i : ℕ) (x : A) → All P xs → slice_get xs i ≡ Some x → P x
All_at P [] i x h e = cc
All_at P (y ∷ ys) zero x h e = subst P (same_Some y x e) (h 0 y (omega arith))
All_at P (y ∷ ys) (suc i) x h e = All_at P ys i x (λ k d l. h (suc k) d (omega (arith, l))) e
