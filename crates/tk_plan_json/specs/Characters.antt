-- The characters that have a meaning in JSON Pointers.
use Rattle.std.specs.Prelude.{ℕ}

-- `/`
abbrev pub slash : ℕ
slash = 47

-- `0`
abbrev pub digit_zero : ℕ
digit_zero = 48

-- `1`
abbrev pub digit_one : ℕ
digit_one = 49

-- `~`
abbrev pub tilde : ℕ
tilde = 126
