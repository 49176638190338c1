-- Rows that are added one after another.
use Rattle.std.proofs.Common.{◌≡◌, ℕ, zero, suc, ◌+◌, ◌-◌, ◌≤◌, List, [], ◌∷◌, ◌++◌, length, drop, add-one, Some, None, refl, sym, ap, ◌∙◌, arith}
use Rattle.std.specs.List.{slice_get, last_or}
use Rattle.std.proofs.lemmas.List.{append-nil, append_assoc}
use Rattle.std.proofs.lemmas.Option.{none-some, same_Some}
use Rattle.tk_explanations.specs.declared.rows.Row.{Row}

-- the element at a place, and what stands after it
dropped_here : {X : Type 0} (xs : List X) (k : ℕ) (x : X) → slice_get xs k ≡ Some x → drop k xs ≡ x ∷ drop (suc k) xs
dropped_here [] k x e = absurd (none-some x e)
dropped_here (y ∷ xs) zero x e = ap (λ z. z ∷ xs) (same_Some y x e)
dropped_here (y ∷ xs) (suc k) x e = dropped_here xs k x e

pub dropped_at : {X : Type 0} (xs : List X) (k : ℕ) (x : X) → slice_get xs k ≡ Some x → drop k xs ≡ x ∷ drop (k + 1) xs
dropped_at xs k x e = dropped_here xs k x e ∙ ap (λ (n : ℕ). x ∷ drop n xs) (sym (add-one k))

pub dropped_all : {X : Type 0} (xs : List X) (k : ℕ) → length xs ≤ k → drop k xs ≡ []
dropped_all [] zero le = refl
dropped_all [] (suc k) le = refl
dropped_all (y ∷ xs) zero le = absurd (omega arith)
dropped_all (y ∷ xs) (suc k) le = dropped_all xs k (omega arith)

-- two rows below others
pub two_rows : (old now first second more : List Row) (a b : Row) → now ≡ old → first ≡ now ++ a ∷ [] → second ≡ first ++ b ∷ [] → more ≡ a ∷ b ∷ [] → second ≡ old ++ more
two_rows old now first second more a b same one two is =
    two ∙ ap (λ (l : List Row). l ++ b ∷ []) one ∙ append_assoc now (a ∷ []) (b ∷ []) ∙ ap (λ (l : List Row). l ++ a ∷ b ∷ []) same ∙ ap (λ (l : List Row). old ++ l) (sym is)

pub one_row : (old now new more : List Row) (a : Row) → now ≡ old → new ≡ now ++ a ∷ [] → more ≡ a ∷ [] → new ≡ old ++ more
one_row old now new more a same one is = one ∙ ap (λ (l : List Row). l ++ a ∷ []) same ∙ ap (λ (l : List Row). old ++ l) (sym is)

pub no_row : (old now more : List Row) → now ≡ old → more ≡ [] → now ≡ old ++ more
no_row old now more same is = same ∙ sym (append-nil old) ∙ ap (λ (l : List Row). old ++ l) (sym is)

-- a row, and further ones below it
pub row_and_more : (old first second more : List Row) (a : Row) → first ≡ old ++ a ∷ [] → second ≡ first ++ more → second ≡ old ++ a ∷ more
row_and_more old first second more a one two = two ∙ ap (λ (l : List Row). l ++ more) one ∙ append_assoc old (a ∷ []) more

-- the last element, by its place
pub last_is : {X : Type 0} (xs : List X) → slice_get xs (length xs - 1) ≡ last_or None xs
last_is [] = refl
last_is {X = X} (x ∷ xs) = let at : length (x ∷ xs) - 1 ≡ length xs = omega arith in ap (slice_get (x ∷ xs)) at ∙ from x xs
  where
    from : (y : X) (ys : List X) → slice_get (y ∷ ys) (length ys) ≡ last_or (Some y) ys
    from y [] = refl
    from y (z ∷ ys) = from z ys
