-- Sixteen lanes of four bits in one word.
use Rattle.std.specs.Prelude.{ℕ, ◌+◌, ◌*◌, ◌/◌, ◌%◌, ◌^◌, ◌<◌, ◌≤◌}

-- lane i of a word, its bits from 4 * i on
abbrev pub lane_at : ℕ → ℕ → ℕ
lane_at w i = w / 2 ^ (4 * i) % 16

-- each of the sixteen lanes has room for what is added
abbrev pub Admits : ℕ → ℕ → Type 0
Admits word need = (i : ℕ) → i < 16 → lane_at word i + lane_at need i ≤ 15
