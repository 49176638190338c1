-- The first of two options that has a value.
use Rattle.std.proofs.Common.{◌≡◌, ◌||◌, ◌⊎◌, inl, inr, Option, Some, None, is_some, refl}
use Rattle.std.specs.Option.{option_or}

pub option_or-none : {A : Type 0} (a : Option A) → option_or a None ≡ a
option_or-none None = refl
option_or-none (Some x) = refl

pub option_or-assoc : {A : Type 0} (a b c : Option A) → option_or (option_or a b) c ≡ option_or a (option_or b c)
option_or-assoc None b c = refl
option_or-assoc (Some x) b c = refl

pub option_or_none_left : {A : Type 0} (a b : Option A) → option_or a b ≡ None → a ≡ None
option_or_none_left None b e = refl
option_or_none_left (Some x) b e = cc

pub option_or_none_right : {A : Type 0} (a b : Option A) → option_or a b ≡ None → b ≡ None
option_or_none_right None b e = e
option_or_none_right (Some x) b e = cc

pub option_or_cases : {A : Type 0} (a b : Option A) (x : A) → option_or a b ≡ Some x → (a ≡ Some x) ⊎ ((a ≡ None) × (b ≡ Some x))
option_or_cases None b x e = inr (refl, e)
option_or_cases (Some y) b x e = inl e

pub is_some-option_or : {A : Type 0} (a b : Option A) → is_some (option_or a b) ≡ (is_some a || is_some b)
is_some-option_or None b = refl
is_some-option_or (Some x) b = refl
