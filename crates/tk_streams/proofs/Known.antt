-- What two steps in turn do to the known bytes.
use Rattle.std.proofs.Common.{◌++◌, ◌+◌, ◌≤◌, ℕ, List, Option, Some, None, append_assoc, arith, length, length-append, length-take, take}
use Rattle.std.specs.Io.KnownBytes.{Appends, Consumes}
use Rattle.std.proofs.KnownBytes.{Consumes-trans}
use Rattle.tk_streams.specs.Stream.{ConsumesUpTo}

pub Appends-then : (a b c : Option (List ℕ)) (xs ys : List ℕ) → Appends a b xs → Appends b c ys → Appends a c (xs ++ ys)
Appends-then None b c xs ys p q = tt
Appends-then (Some a) None c xs ys p q = absurd p
Appends-then (Some a) (Some b) None xs ys p q = absurd q
Appends-then (Some a) (Some b) (Some c) xs ys p q = rw (q, p) (append_assoc a xs ys)

-- what was taken before, and what a read of some bytes took
pub ConsumesUpTo-more : (a b c : Option (List ℕ)) (xs buffer : List ℕ) (count n : ℕ) → Consumes a b xs → Consumes b c (take count buffer) → length xs + count ≤ n → ConsumesUpTo n a c
ConsumesUpTo-more a b c xs buffer count n p q few =
    let both = length-append xs (take count buffer) in
    let second = length-take count buffer in
    (xs ++ take count buffer, Consumes-trans a b c xs (take count buffer) p q, omega arith)
