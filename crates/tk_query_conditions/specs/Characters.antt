-- The characters that have a meaning in conditions' texts, and the digits of their escapes.
use Rattle.std.specs.Prelude.{ℕ}

-- `%`
abbrev pub percent : ℕ
percent = 37

-- `(`
abbrev pub opening_bracket : ℕ
opening_bracket = 40

-- `)`
abbrev pub closing_bracket : ℕ
closing_bracket = 41

-- `,`
abbrev pub comma : ℕ
comma = 44
