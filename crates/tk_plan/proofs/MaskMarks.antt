-- What masks ask, as marks are added.
use Rattle.std.proofs.Common.{◌≡◌, ℕ, zero, suc, ◌<◌, ◌^◌, max, ◌*◌, ◌%◌, Bool, cond, true, false, bit_or, List, refl, sym, ap, ap₂, ◌∙◌, Some}
use Rattle.std.specs.Int.{bit_at}
use Rattle.std.proofs.Math.Dec.{eqb}
use Rattle.std.proofs.lemmas.Bool.{eqb-true, eqb-false}
use Rattle.std.proofs.lemmas.Nat.Bits.{bit_at-zero}
use Rattle.tk_locks.specs.NeedView.{NeedView}
use Rattle.tk_locks.specs.Needs.{Access, nothing, reads, writes, access_of, access, weight, word_of}
use Rattle.tk_locks.proofs.LaneWords.{packed-same}
use Rattle.tk_plan.specs.declared.trees.nodes.NumberedNode.{NumberedNode}
use Rattle.tk_plan.specs.Planned.{IsNeedOf, need_word, unit_asks}
use Rattle.tk_plan.specs.LockNeeds.{over, at_resource}
use Rattle.tk_locks.proofs.AddedAccess.{bit_other, bit_same, larger, one_bit}

pub over-nothing : (a : Access) → over a nothing ≡ a
over-nothing nothing = refl
over-nothing reads = refl
over-nothing writes = refl

read_marked : (r w : ℕ) → access_of (max r 1) w ≡ over (access_of r w) reads
read_marked zero zero = refl
read_marked (suc r) zero = ap (λ m. access_of m 0) (larger r)
read_marked zero (suc w) = refl
read_marked (suc r) (suc w) = ap (λ m. access_of m (suc w)) (larger r)

write_marked : (r w : ℕ) → access_of r (max w 1) ≡ over (access_of r w) writes
write_marked zero zero = refl
write_marked (suc r) zero = refl
write_marked zero (suc w) = ap (access_of 0) (larger w)
write_marked (suc r) (suc w) = ap (access_of (suc r)) (larger w)

read_by : (rs ws k r : ℕ) (b : Bool) → eqb k r ≡ b → access_of (bit_at (bit_or rs (2 ^ k)) r) (bit_at ws r) ≡ over (access_of (bit_at rs r) (bit_at ws r)) (cond b reads nothing)
read_by rs ws k r true e =
    let at : 2 ^ k ≡ 2 ^ r = ap (λ i. 2 ^ i) (eqb-true k r e) in
    ap (λ m. access_of (bit_at (bit_or rs m) r) (bit_at ws r)) at ∙ ap (λ m. access_of m (bit_at ws r)) (bit_same rs r) ∙ read_marked (bit_at rs r) (bit_at ws r)
read_by rs ws k r false e = ap (λ m. access_of m (bit_at ws r)) (bit_other rs k r (λ same. eqb-false k r e (sym same))) ∙ sym (over-nothing _)

write_by : (rs ws k r : ℕ) (b : Bool) → eqb k r ≡ b → access_of (bit_at rs r) (bit_at (bit_or ws (2 ^ k)) r) ≡ over (access_of (bit_at rs r) (bit_at ws r)) (cond b writes nothing)
write_by rs ws k r true e =
    let at : 2 ^ k ≡ 2 ^ r = ap (λ i. 2 ^ i) (eqb-true k r e) in
    ap (λ m. access_of (bit_at rs r) (bit_at (bit_or ws m) r)) at ∙ ap (λ m. access_of (bit_at rs r) m) (bit_same ws r) ∙ write_marked (bit_at rs r) (bit_at ws r)
write_by rs ws k r false e = ap (λ m. access_of (bit_at rs r) m) (bit_other ws k r (λ same. eqb-false k r e (sym same))) ∙ sym (over-nothing _)

-- a bit is added to the resources that are read
pub marks_read : (rs ws k : ℕ) → k < 16 → (r : ℕ)
    → access_of (bit_at (bit_or rs (1 * 2 ^ k % 65536)) r) (bit_at ws r) ≡ over (access_of (bit_at rs r) (bit_at ws r)) (at_resource (Some k) reads r)
marks_read rs ws k h r = ap (λ b. access_of (bit_at (bit_or rs b) r) (bit_at ws r)) (one_bit k h) ∙ read_by rs ws k r (eqb k r) refl

-- or to those that are written
pub marks_write : (rs ws k : ℕ) → k < 16 → (r : ℕ)
    → access_of (bit_at rs r) (bit_at (bit_or ws (1 * 2 ^ k % 65536)) r) ≡ over (access_of (bit_at rs r) (bit_at ws r)) (at_resource (Some k) writes r)
marks_write rs ws k h r = ap (λ b. access_of (bit_at rs r) (bit_at (bit_or ws b) r)) (one_bit k h) ∙ write_by rs ws k r (eqb k r) refl

pub none_marked : (r : ℕ) (a : Access) → over (access_of (bit_at 0 r) (bit_at 0 r)) a ≡ a
none_marked r a = ap₂ (λ x y. over (access_of x y) a) (bit_at-zero r) (bit_at-zero r)

-- ---- a need as a word

pub word_needed : (nodes : List NumberedNode) (unit : ℕ) (w : NeedView) → IsNeedOf nodes unit w → word_of w ≡ need_word nodes unit
word_needed nodes unit w h = packed-same 16 (λ r. weight (access w r)) (λ r. weight (unit_asks nodes unit r)) (λ r l. ap weight (h r l))
