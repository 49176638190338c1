-- Truth values.
use Rattle.std.proofs.Common.{◌≡◌, Bool, true, false, ◌&&◌, ◌||◌, refl}

pub or-false : (b : Bool) → (b || false) ≡ b
or-false true = refl
or-false false = refl

pub and-true : (b : Bool) → (b && true) ≡ b
and-true true = refl
and-true false = refl

pub or_twice : (a h : Bool) → a || h ≡ a || (a || h)
or_twice true h = refl
or_twice false h = refl

pub or_swap : (a b h : Bool) → a || (b || h) ≡ b || (a || h)
or_swap true true h = refl
or_swap true false h = refl
or_swap false b h = refl
