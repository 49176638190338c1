-- A mask: bits in words of 64, lowest first.
use Rattle.std.specs.Prelude.{◌≡◌, ◌<◌, ◌≤◌, ◌==◌, ℕ, ◌+◌, ◌*◌, ◌/◌, ◌%◌, Bool, true, false, not}
use Rattle.std.specs.Prelude.{bit_and, List, length, map, slice_index, get_or, count_by}
use Rattle.std.specs.Int.{bit_at}
use Rattle.std.specs.List.{range_with_len}

-- how many words hold n bits
abbrev pub words_for : ℕ → ℕ
words_for n = (n + 63) / 64

-- bit i is bit `i % 64` of word `i / 64`, and false past the last word
abbrev pub has_bit : List ℕ → ℕ → Bool
has_bit words i = bit_at (slice_index words (i / 64)) (i % 64) == 1

-- the first n bits
unfoldable pub first_bits : ℕ → List ℕ → List Bool
first_bits n words = map (has_bit words) (range_with_len 0 n)

-- no bit at or above n is set
pub record IsClearFrom (n : ℕ) (words : List ℕ) : Type 0 where
  pub clear : (i : ℕ) → n ≤ i → has_bit words i ≡ false

-- the least set bit at or above n is at
pub record IsFirstFrom (n : ℕ) (words : List ℕ) (at : ℕ) : Type 0 where
  pub from : n ≤ at
  pub set : has_bit words at ≡ true
  pub least : (i : ℕ) → n ≤ i → i < at → has_bit words i ≡ false

-- how many bits are set
unfoldable pub set_bits : List ℕ → ℕ
set_bits words = count_by (has_bit words) (range_with_len 0 (64 * length words))

-- the words hold these flags: bit i is flag i, and each bit past the last flag is 0
pub record HoldsFlags (flags : List Bool) (words : List ℕ) : Type 0 where
  pub size : length words ≡ words_for (length flags)
  pub bits : (i : ℕ) → has_bit words i ≡ get_or flags i false

-- whether two numbers have a common one bit
abbrev pub shares_bit : ℕ → ℕ → Bool
shares_bit a b = not (bit_and a b == 0)
