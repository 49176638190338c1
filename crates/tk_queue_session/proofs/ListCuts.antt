-- Where a list is cut around one of its elements.
use Rattle.std.proofs.Common.{◌≡◌, ◌⊎◌, List, [], ◌∷◌, ◌++◌, refl, ap, inl, inr, ⊎_elim}
use Rattle.tk_base.proofs.Lists.{no_split}

-- where a list with one more at its end is cut: at the end, or before it
pub cut_last : {X : Type 0} (xs : List X) (x : X) (before : List X) (e : X) (after : List X) → xs ++ x ∷ [] ≡ before ++ e ∷ after
    → ((before ≡ xs) × (e ≡ x)) ⊎ ((rest : List X) × (xs ≡ before ++ e ∷ rest))
cut_last [] x [] e after h = inl (refl, cc)
cut_last [] x (b ∷ before) e after h = let none : [] ≡ before ++ e ∷ after = cc in absurd (no_split before e after none)
cut_last (y ∷ xs) x [] e after h = let head : y ≡ e = cc in inr (xs, ap (λ z. z ∷ xs) head)
cut_last (y ∷ xs) x (b ∷ before) e after h =
    let head : y ≡ b = cc in
    let tail : xs ++ x ∷ [] ≡ before ++ e ∷ after = cc in
    ⊎_elim (λ (t : (before ≡ xs) × (e ≡ x)). inl (let p = t.0 in cc, t.1))
    (λ (t : (rest : List _) × (xs ≡ before ++ e ∷ rest)). inr (t.0, let p = t.1 in cc))
    (cut_last xs x before e after tail)
