-- What masks ask of the resources, once one bit was added.
use Rattle.std.proofs.Common.{◌≡◌, ◌≢◌, ℕ, zero, suc, ◌<◌, ◌^◌, max, ◌*◌, ◌%◌, Bool, cond, true, false, bit_or, refl, sym, ap, ◌∙◌, arith}
use Rattle.std.specs.Int.{bit_at}
use Rattle.std.proofs.Math.Pow.{pow-lt}
use Rattle.std.proofs.Math.Nat.{mod-eq_of_lt}
use Rattle.std.proofs.Math.Dec.{eqb}
use Rattle.std.proofs.lemmas.Bool.{eqb-true, eqb-false}
use Rattle.std.proofs.lemmas.Nat.Bits.{bit_at_or, bit_at-zero, bit_at-pow_same, bit_at-pow_other}
use Rattle.tk_locks.specs.Needs.{nothing, reads, writes, access_of, stronger}

pub larger : (r : ℕ) → max (suc r) 1 ≡ suc r
larger r = omega arith

read_added : (r w : ℕ) → access_of (max r 1) w ≡ stronger (access_of r w) reads
read_added zero zero = refl
read_added (suc r) zero = ap (λ m. access_of m 0) (larger r)
read_added zero (suc w) = refl
read_added (suc r) (suc w) = ap (λ m. access_of m (suc w)) (larger r)

write_added : (r w : ℕ) → access_of r (max w 1) ≡ stronger (access_of r w) writes
write_added zero zero = refl
write_added (suc r) zero = refl
write_added zero (suc w) = ap (access_of 0) (larger w)
write_added (suc r) (suc w) = ap (access_of (suc r)) (larger w)

pub bit_same : (m k : ℕ) → bit_at (bit_or m (2 ^ k)) k ≡ max (bit_at m k) 1
bit_same m k = bit_at_or m (2 ^ k) k ∙ ap (λ b. max (bit_at m k) b) (bit_at-pow_same k)

pub bit_other : (m k i : ℕ) → i ≢ k → bit_at (bit_or m (2 ^ k)) i ≡ bit_at m i
bit_other m k i h = bit_at_or m (2 ^ k) i ∙ ap (λ b. max (bit_at m i) b) (bit_at-pow_other k i h) ∙ omega arith

pub one_bit : (k : ℕ) → k < 16 → 1 * 2 ^ k % 65536 ≡ 2 ^ k
one_bit k h = let small : 2 ^ k < 2 ^ 16 = pow-lt h in ap (λ b. b % 65536) (omega arith) ∙ mod-eq_of_lt small

read_by : (rs ws k i : ℕ) (b : Bool) → eqb k i ≡ b → access_of (bit_at (bit_or rs (2 ^ k)) i) (bit_at ws i) ≡ cond b (stronger (access_of (bit_at rs i) (bit_at ws i)) reads) (access_of (bit_at rs i) (bit_at ws i))
read_by rs ws k i true e =
    let at : 2 ^ k ≡ 2 ^ i = ap (λ j. 2 ^ j) (eqb-true k i e) in
    ap (λ m. access_of (bit_at (bit_or rs m) i) (bit_at ws i)) at ∙ ap (λ m. access_of m (bit_at ws i)) (bit_same rs i) ∙ read_added (bit_at rs i) (bit_at ws i)
read_by rs ws k i false e = ap (λ m. access_of m (bit_at ws i)) (bit_other rs k i (λ same. eqb-false k i e (sym same)))

write_by : (rs ws k i : ℕ) (b : Bool) → eqb k i ≡ b → access_of (bit_at rs i) (bit_at (bit_or ws (2 ^ k)) i) ≡ cond b (stronger (access_of (bit_at rs i) (bit_at ws i)) writes) (access_of (bit_at rs i) (bit_at ws i))
write_by rs ws k i true e =
    let at : 2 ^ k ≡ 2 ^ i = ap (λ j. 2 ^ j) (eqb-true k i e) in
    ap (λ m. access_of (bit_at rs i) (bit_at (bit_or ws m) i)) at ∙ ap (λ m. access_of (bit_at rs i) m) (bit_same ws i) ∙ write_added (bit_at rs i) (bit_at ws i)
write_by rs ws k i false e = ap (λ m. access_of (bit_at rs i) m) (bit_other ws k i (λ same. eqb-false k i e (sym same)))

-- a resource is added to those that are read
pub adds_read : (rs ws k : ℕ) → k < 16 → (i : ℕ)
    → access_of (bit_at (bit_or rs (1 * 2 ^ k % 65536)) i) (bit_at ws i) ≡ cond (eqb k i) (stronger (access_of (bit_at rs i) (bit_at ws i)) reads) (access_of (bit_at rs i) (bit_at ws i))
adds_read rs ws k h i = ap (λ b. access_of (bit_at (bit_or rs b) i) (bit_at ws i)) (one_bit k h) ∙ read_by rs ws k i (eqb k i) refl

-- or to those that are written
pub adds_write : (rs ws k : ℕ) → k < 16 → (i : ℕ)
    → access_of (bit_at rs i) (bit_at (bit_or ws (1 * 2 ^ k % 65536)) i) ≡ cond (eqb k i) (stronger (access_of (bit_at rs i) (bit_at ws i)) writes) (access_of (bit_at rs i) (bit_at ws i))
adds_write rs ws k h i = ap (λ b. access_of (bit_at rs i) (bit_at (bit_or ws b) i)) (one_bit k h) ∙ write_by rs ws k i (eqb k i) refl

pub asks_nothing : (i : ℕ) → access_of (bit_at 0 i) (bit_at 0 i) ≡ nothing
asks_nothing i = ap (λ b. access_of b b) (bit_at-zero i)
