-- What the bits of two masks say of a resource, and of two needs.
use Rattle.std.proofs.Common.{◌≡◌, ℕ, zero, suc, ◌+◌, ◌-◌, ◌*◌, ◌^◌, ◌<◌, ◌≤◌, min, max, ◌↔◌, IsTrue, eqb, eqb-true, eq-eqb, bit_and, bit_or, w16, refl, sym, ap, ◌∙◌, arith}
use Rattle.std.specs.Int.{bit_at}
use Rattle.std.proofs.lemmas.Nat.{and_le_l}
use Rattle.std.proofs.lemmas.Nat.Bits.{bit_at_and, bit_at_or, bit_at_not, bit_at-lt, bit_at-zero, same_from_bits_below}
use Rattle.std.proofs.Math.Pow.{pow_mono}
use Rattle.tk_locks.specs.NeedView.{NeedView}
use Rattle.tk_locks.specs.Words.{packed}
use Rattle.tk_locks.specs.Needs.{access_of, Clash, Conflict, weight, lane, word_of}
use Rattle.tk_locks.proofs.LaneWords.{packed-same, packed-lt}
use Rattle.tk_locks.proofs.LaneConflicts.{lane_le}

hidden : (r s w : ℕ) → (w ≡ 0 → r ≡ s) → access_of r w ≡ access_of s w
hidden zero zero zero h = refl
hidden zero (suc s) zero h = let e = h refl in absurd (omega arith)
hidden (suc r) zero zero h = let e = h refl in absurd (omega arith)
hidden (suc r) (suc s) zero h = refl
hidden zero zero (suc w) h = refl
hidden zero (suc s) (suc w) h = refl
hidden (suc r) zero (suc w) h = refl
hidden (suc r) (suc s) (suc w) h = refl

-- a read that is also a write is hidden by it
pub masked : (rs ws r : ℕ) → r < 16 → ws < 2 ^ 16 → access_of (bit_at (bit_and rs (65535 - ws)) r) (bit_at ws r) ≡ access_of (bit_at rs r) (bit_at ws r)
masked rs ws r in16 fits = let a = bit_at_and rs (65535 - ws) r in let n : bit_at (65535 - ws) r ≡ 1 - bit_at ws r = bit_at_not w16 ws r fits in16 in let lt = bit_at-lt rs r in
    hidden (bit_at (bit_and rs (65535 - ws)) r) (bit_at rs r) (bit_at ws r) (λ none. omega arith)

apart : (ar aw br bw : ℕ) → min aw (max br bw) ≡ 0 → min ar bw ≡ 0 → Clash (access_of ar aw) (access_of br bw) → ⊥
apart zero zero zero zero h k c = c
apart zero zero zero (suc bw) h k c = c
apart zero zero (suc br) zero h k c = c
apart zero zero (suc br) (suc bw) h k c = c
apart (suc ar) zero zero zero h k c = c
apart (suc ar) zero zero (suc bw) h k c = absurd (omega arith)
apart (suc ar) zero (suc br) zero h k c = c
apart (suc ar) zero (suc br) (suc bw) h k c = absurd (omega arith)
apart zero (suc aw) zero zero h k c = c
apart zero (suc aw) zero (suc bw) h k c = absurd (omega arith)
apart zero (suc aw) (suc br) bw h k c = absurd (omega arith)
apart (suc ar) (suc aw) zero zero h k c = c
apart (suc ar) (suc aw) zero (suc bw) h k c = absurd (omega arith)
apart (suc ar) (suc aw) (suc br) bw h k c = absurd (omega arith)

beside : (ar aw br bw : ℕ) → (Clash (access_of ar aw) (access_of br bw) → ⊥) → (min aw (max br bw) ≡ 0) × (min ar bw ≡ 0)
beside zero zero br bw n = (omega arith, omega arith)
beside (suc ar) zero zero zero n = (omega arith, omega arith)
beside (suc ar) zero zero (suc bw) n = absurd (n tt)
beside (suc ar) zero (suc br) zero n = (omega arith, omega arith)
beside (suc ar) zero (suc br) (suc bw) n = absurd (n tt)
beside zero (suc aw) zero zero n = (omega arith, omega arith)
beside zero (suc aw) zero (suc bw) n = absurd (n tt)
beside zero (suc aw) (suc br) zero n = absurd (n tt)
beside zero (suc aw) (suc br) (suc bw) n = absurd (n tt)
beside (suc ar) (suc aw) zero zero n = (omega arith, omega arith)
beside (suc ar) (suc aw) zero (suc bw) n = absurd (n tt)
beside (suc ar) (suc aw) (suc br) zero n = absurd (n tt)
beside (suc ar) (suc aw) (suc br) (suc bw) n = absurd (n tt)

-- masks with no bit in common say that there is no conflict, and the other way round
pub no_conflict : (a b : NeedView) → bit_and a.writes (bit_or b.reads b.writes) ≡ 0 → bit_and a.reads b.writes ≡ 0 → Conflict a b → ⊥
no_conflict a b p q c = let r : ℕ = c.0 in
    let h : min (bit_at a.writes r) (max (bit_at b.reads r) (bit_at b.writes r)) ≡ 0 =
    ap (λ (x : ℕ). min (bit_at a.writes r) x) (sym (bit_at_or b.reads b.writes r)) ∙ sym (bit_at_and a.writes (bit_or b.reads b.writes) r) ∙ ap (λ (x : ℕ). bit_at x r) p ∙ bit_at-zero r in
    let k : min (bit_at a.reads r) (bit_at b.writes r) ≡ 0 = sym (bit_at_and a.reads b.writes r) ∙ ap (λ (x : ℕ). bit_at x r) q ∙ bit_at-zero r in
    apart (bit_at a.reads r) (bit_at a.writes r) (bit_at b.reads r) (bit_at b.writes r) h k c.2

pub no_bits : (a b : NeedView) → a.reads < 2 ^ 16 → a.writes < 2 ^ 16 → (Conflict a b → ⊥) → (bit_and a.writes (bit_or b.reads b.writes) ≡ 0) × (bit_and a.reads b.writes ≡ 0)
no_bits a b fr fw n = let at = λ (r : ℕ) (lt : r < 16). beside (bit_at a.reads r) (bit_at a.writes r) (bit_at b.reads r) (bit_at b.writes r) (λ c. n (r, lt, c)) in (
  same_from_bits_below 16 (bit_and a.writes (bit_or b.reads b.writes)) 0 (let le = and_le_l a.writes (bit_or b.reads b.writes) in omega arith) (omega arith)
      (λ r lt. bit_at_and a.writes (bit_or b.reads b.writes) r ∙ ap (λ (x : ℕ). min (bit_at a.writes r) x) (bit_at_or b.reads b.writes r) ∙ (at r lt).0 ∙ sym (bit_at-zero r)),
  same_from_bits_below 16 (bit_and a.reads b.writes) 0 (let le = and_le_l a.reads b.writes in omega arith) (omega arith) (λ r lt. bit_at_and a.reads b.writes r ∙ (at r lt).1 ∙ sym (bit_at-zero r)),
)

-- one more lane below the lanes so far
pub one_lane : (n : NeedView) (done word value : ℕ) → done < 16 → word ≡ packed done (λ i. lane n (16 - done + i)) → value ≡ lane n (15 - done) → word * 16 + value ≡ packed (done + 1) (λ i. lane n (16 - (done + 1) + i))
unfolding packed
one_lane n done word value lt so_far is = go (done + 1) refl
  where
    go : (k : ℕ) → done + 1 ≡ k → word * 16 + value ≡ packed k (λ i. lane n (16 - k + i))
    go zero e = absurd (omega arith)
    go (suc k) e = let s : done ≡ k = omega arith in
        let first : lane n (15 - done) ≡ lane n (16 - suc k + 0) = ap (lane n) (omega arith) in
        let rest : packed done (λ i. lane n (16 - done + i)) ≡ packed k (λ i. lane n (16 - suc k + suc i)) =
        ap (λ (j : ℕ). packed j (λ i. lane n (16 - done + i))) s ∙ packed-same k (λ i. lane n (16 - done + i)) (λ i. lane n (16 - suc k + suc i)) (λ i l. ap (lane n) (omega arith)) in omega arith

-- the weight of a resource that is not written
pub read_weight : (r w : ℕ) → w < 2 → (w ≡ 1 → ⊥) → r ≡ 1 → 1 ≡ weight (access_of r w)
read_weight zero zero lt n e = absurd (omega arith)
read_weight (suc r) zero lt n e = refl
read_weight zero (suc w) lt n e = absurd (n (omega arith))
read_weight (suc r) (suc w) lt n e = absurd (n (omega arith))

pub write_weight : (r w : ℕ) → w ≡ 1 → 15 ≡ weight (access_of r w)
write_weight r zero e = absurd (omega arith)
write_weight zero (suc w) e = refl
write_weight (suc r) (suc w) e = refl

pub no_weight : (r w : ℕ) → r < 2 → w < 2 → (w ≡ 1 → ⊥) → (r ≡ 1 → ⊥) → 0 ≡ weight (access_of r w)
no_weight zero zero l m n k = refl
no_weight (suc r) zero l m n k = absurd (k (omega arith))
no_weight zero (suc w) l m n k = absurd (n (omega arith))
no_weight (suc r) (suc w) l m n k = absurd (n (omega arith))

-- fewer than sixteen lanes leave room for one more
pub room_for_lane : (n : NeedView) (done word : ℕ) → done < 16 → word ≡ packed done (λ i. lane n (16 - done + i)) → word < 2 ^ 60
room_for_lane n done word lt is = let b = packed-lt done (λ i. lane n (16 - done + i)) (λ i _. lane_le n (16 - done + i)) in let e : 4 * done ≤ 60 = omega arith in let p : 2 ^ (4 * done) ≤ 2 ^ 60 = pow_mono e in omega arith

pub all_lanes : (n : NeedView) (done word : ℕ) → done ≡ 16 → word ≡ packed done (λ i. lane n (16 - done + i)) → word ≡ word_of n
all_lanes n done word all is = is ∙ ap (λ (j : ℕ). packed j (λ i. lane n (16 - done + i))) all ∙ packed-same 16 (λ i. lane n (16 - done + i)) (lane n) (λ i lt. ap (lane n) (omega arith))

-- both tests in one
pub compatible : (a b : NeedView) → a.reads < 2 ^ 16 → a.writes < 2 ^ 16 → bit_and a.writes (bit_or b.reads b.writes) ≡ 0 → IsTrue (eqb (bit_and a.reads b.writes) 0) ↔ (Conflict a b → ⊥)
compatible a b fr fw p = ((λ t. no_conflict a b p (eqb-true _ _ t)), λ n. eq-eqb _ _ (no_bits a b fr fw n).1)

pub not_compatible : (a b : NeedView) → a.reads < 2 ^ 16 → a.writes < 2 ^ 16 → (bit_and a.writes (bit_or b.reads b.writes) ≡ 0 → ⊥) → IsTrue (eqb (bit_and a.writes (bit_or b.reads b.writes)) 0) ↔ (Conflict a b → ⊥)
not_compatible a b fr fw p = ((λ t. absurd (p (eqb-true _ _ t))), λ n. absurd (p (no_bits a b fr fw n).0))
