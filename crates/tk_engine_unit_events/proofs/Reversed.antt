-- The last element of a list is the first one of the list reversed.
use Rattle.std.proofs.Common.{◌≡◌, ◌-◌, ◌+◌, ℕ, zero, suc, List, [], ◌∷◌, ◌++◌, Option, None, Some}
use Rattle.std.proofs.Common.{Bor, length, reverse, slice_get, sym, ap, ◌∙◌, arith}
use Rattle.std.specs.Prelude.{IfSome, option_copied}
use Rattle.std.proofs.lemmas.List.{reverse-append}
use Rattle.std.proofs.lemmas.Option.{same_Some}

reverse_last : {T : Type 0} (l : List T) (at : ℕ) (last : T) → length l ≡ at + 1
    → slice_get l at ≡ Some last
    → (rest : List T) × (reverse l ≡ last ∷ rest)
reverse_last [] at last long e = cc
reverse_last (x ∷ []) zero last long e = ([], ap (λ v. v ∷ []) (same_Some _ _ e))
reverse_last (x ∷ []) (suc at) last long e = absurd (omega (arith, long))
reverse_last (x ∷ y ∷ ys) zero last long e = absurd (omega (arith, long))
reverse_last (x ∷ y ∷ ys) (suc at) last long e =
    let r = reverse_last (y ∷ ys) at last (omega (arith, long)) e in
    (r.0 ++ x ∷ [], reverse-append (x ∷ []) (y ∷ ys) ∙ ap (λ l. l ++ x ∷ []) r.1)

-- the last element of a list, where it has one
pub last_on_top : {T : Type 0} (l view : List T) (r : Option (Bor T))
    → option_copied r ≡ slice_get l (length l - 1) → reverse l ≡ view
    → IfSome r (λ top. (rest : List T) × (view ≡ top.now ∷ rest))
last_on_top l view None e is = tt
last_on_top [] view (Some top) e is = cc
last_on_top (x ∷ xs) view (Some top) e is =
    let r = reverse_last (x ∷ xs) (length (x ∷ xs) - 1) top.now (omega arith) (sym e) in
    (r.0, sym is ∙ r.1)
