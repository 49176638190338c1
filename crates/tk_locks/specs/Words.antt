-- A word made of lanes.
use Rattle.std.specs.Prelude.{ℕ, zero, suc, ◌+◌, ◌*◌}

-- the number with k lanes of four bits, lane i being f i
unfoldable pub packed : ℕ → (ℕ → ℕ) → ℕ
packed zero f = 0
packed (suc k) f = f 0 + 16 * packed k (λ i. f (suc i))
