-- How many numbers were drawn, and in which order each seat drew its own.
use Rattle.std.proofs.Common.{◌≡◌, ℕ, ◌<◌, Bool, cond, List, Some, sym, ap, ◌∙◌, subst, arith}
use Rattle.std.specs.Prelude.{slice_get}
use mathlib.Core.Logic.{dite}
use native.Mathlib.Decide.{dec_lt}
use Rattle.std.proofs.lemmas.Bool.{lt-ltb, le-ltb}
use Rattle.std.proofs.lemmas.Option.{slice_get_within, get_or_from_slice_get}
use Rattle.tk_claims.specs.Claims.{Claims, IsStrictlyIncreasing, once_below}

not_fewer : (lists : List (List ℕ)) (n m : ℕ) → Claims lists n → Claims lists m → n < m → ⊥
not_fewer lists n m a b lt =
    let none : once_below n n ≡ 0 = ap (λ (is : Bool). cond {A = ℕ} is 1 0) (le-ltb n n (omega arith)) in
    let some : once_below n m ≡ 1 = ap (λ (is : Bool). cond {A = ℕ} is 1 0) (lt-ltb n m lt) in
    let same = sym (a.once n) ∙ b.once n in omega arith

pub number : (lists : List (List ℕ)) (n m : ℕ) → Claims lists n → Claims lists m → n ≡ m
number lists n m a b =
    dite (dec_lt n m) (λ lt. absurd (not_fewer lists n m a b lt))
    (λ ge. dite (dec_lt m n) (λ lt. absurd (not_fewer lists m n b a lt)) (λ le. omega arith))

pub order : (lists : List (List ℕ)) (numbers : List ℕ) (n seat i j x y : ℕ) → Claims lists n
    → slice_get lists seat ≡ Some numbers → slice_get numbers i ≡ Some x
    → slice_get numbers j ≡ Some y → i < j → x < y
order lists numbers n seat i j x y claims own first later before =
    let increasing : IsStrictlyIncreasing numbers =
    subst IsStrictlyIncreasing (get_or_from_slice_get lists seat numbers numbers own)
    (claims.increasing seat numbers (slice_get_within lists seat numbers own)) in
    let less = increasing i j 0 before (slice_get_within numbers j y later) in
    let a = get_or_from_slice_get numbers i x 0 first in
    let b = get_or_from_slice_get numbers j y 0 later in omega arith
