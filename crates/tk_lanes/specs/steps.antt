-- What private clauses and proofs alone name.
use Rattle.std.specs.Prelude.{ℕ, ◌*◌, List, take, drop}

-- the block of this number, counted from 0, where the list is cut into blocks of 64
abbrev pub block_of : {X : Type 0} → ℕ → List X → List X
block_of n xs = take 64 (drop (64 * n) xs)
