-- The characters of an id's text, by their codes.
use Rattle.std.specs.Prelude.{ℕ}

abbrev pub percent_sign : ℕ
percent_sign = 37

abbrev pub plus_sign : ℕ
plus_sign = 43

abbrev pub slash : ℕ
slash = 47

abbrev pub digit_two : ℕ
digit_two = 50

abbrev pub digit_three : ℕ
digit_three = 51

abbrev pub digit_five : ℕ
digit_five = 53

abbrev pub colon : ℕ
colon = 58

abbrev pub letter_a : ℕ
letter_a = 65

abbrev pub letter_b : ℕ
letter_b = 66

abbrev pub letter_d : ℕ
letter_d = 68

abbrev pub letter_f : ℕ
letter_f = 70

abbrev pub open_bracket : ℕ
open_bracket = 91

abbrev pub close_bracket : ℕ
close_bracket = 93
