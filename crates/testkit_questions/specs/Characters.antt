-- The characters between the parts of words and of answers.
use Rattle.std.specs.Prelude.{ℕ}

-- one blank
abbrev pub blank : ℕ
blank = 32

-- the end of a line
abbrev pub line_feed : ℕ
line_feed = 10

-- `=`
abbrev pub equals_sign : ℕ
equals_sign = 61
