-- A need is determined by what it asks of each resource.
use Rattle.std.proofs.Common.{◌≡◌, ℕ, zero, suc, ◌+◌, ◌*◌, ◌^◌, ◌/◌, ◌%◌, ◌<◌, Bool, true, false, List, sym, ap, ◌∙◌, arith, if◌then◌else◌}
use Rattle.std.specs.Prelude.{bit_and, min}
use Rattle.std.specs.Int.{bit_at}
use Rattle.std.proofs.lemmas.Nat.Bits.{bit_at-lt, bit_at_and, bit_at-zero, bit_at_lowest, bit_at-suc, same_from_bits_below}
use Rattle.tk_locks.specs.NeedView.{NeedView}
use Rattle.tk_locks.specs.Needs.{Access, access_of}
use Rattle.tk_plan.specs.declared.trees.nodes.NumberedNode.{NumberedNode}
use Rattle.tk_plan.specs.Planned.{unit_asks, IsNeedOf}
use Rattle.tk_plan.specs.Masks.{mask, is_read, is_write, need_of}

abbrev bit : Bool → ℕ
bit b = if b then 1 else 0

bit_few : (b : Bool) → bit b < 2
bit_few true = omega arith
bit_few false = omega arith

mask_fits : (k : ℕ) (f : ℕ → Bool) → mask k f < 2 ^ k
mask_fits zero f = omega arith
mask_fits (suc k) f = let h = mask_fits k (λ i. f (suc i)) in let b = bit_few (f 0) in omega (arith, h, b)

mask_bit : (k : ℕ) (f : ℕ → Bool) (i : ℕ) → i < k → bit_at (mask k f) i ≡ bit (f i)
mask_bit zero f i lt = absurd (omega arith)
mask_bit (suc k) f zero lt =
    let b = bit_few (f 0) in
    bit_at_lowest (mask (suc k) f) ∙ (let e : (bit (f 0) + 2 * mask k (λ i. f (suc i))) % 2 ≡ bit (f 0) = omega (arith, b) in e)
mask_bit (suc k) f (suc i) lt =
    let b = bit_few (f 0) in
    let half : (bit (f 0) + 2 * mask k (λ i. f (suc i))) / 2 ≡ mask k (λ i. f (suc i)) = omega (arith, b) in
    bit_at-suc (mask (suc k) f) i ∙ ap (λ n. bit_at n i) half ∙ mask_bit k (λ i. f (suc i)) i (omega arith)

-- the two bits of a resource, by what is asked of it
bits_by : (r w : ℕ) (a : Access) → r < 2 → w < 2 → min r w ≡ 0 → access_of r w ≡ a → (r ≡ bit (is_read a)) × (w ≡ bit (is_write a))
bits_by zero zero a x y apart e = (ap (λ o. bit (is_read o)) e, ap (λ o. bit (is_write o)) e)
bits_by (suc zero) zero a x y apart e = (ap (λ o. bit (is_read o)) e, ap (λ o. bit (is_write o)) e)
bits_by zero (suc zero) a x y apart e = (ap (λ o. bit (is_read o)) e, ap (λ o. bit (is_write o)) e)
bits_by (suc zero) (suc zero) a x y apart e = absurd (omega arith)
bits_by (suc (suc r)) w a x y apart e = absurd (omega arith)
bits_by r (suc (suc w)) a x y apart e = absurd (omega arith)

-- what asks so, with no resource both read and written, is that need
pub same_need : (nodes : List NumberedNode) (unit : ℕ) (n : NeedView) → n.reads < 2 ^ 16 → n.writes < 2 ^ 16 → bit_and n.reads n.writes ≡ 0 → IsNeedOf nodes unit n → n ≡ need_of nodes unit
same_need nodes unit n few_reads few_writes apart asks =
    let each = λ (i : ℕ) (lt : i < 16).
    bits_by (bit_at n.reads i) (bit_at n.writes i) (unit_asks nodes unit i) (bit_at-lt n.reads i) (bit_at-lt n.writes i)
    (sym (bit_at_and n.reads n.writes i) ∙ ap (λ x. bit_at x i) apart ∙ bit_at-zero i) (asks i lt) in
    let needed = need_of nodes unit in
    let same_reads = same_from_bits_below 16 n.reads needed.reads few_reads (mask_fits 16 (λ r. is_read (unit_asks nodes unit r)))
    (λ i lt. (each i lt).0 ∙ sym (mask_bit 16 (λ r. is_read (unit_asks nodes unit r)) i lt)) in
    let same_writes = same_from_bits_below 16 n.writes needed.writes few_writes (mask_fits 16 (λ r. is_write (unit_asks nodes unit r)))
    (λ i lt. (each i lt).1 ∙ sym (mask_bit 16 (λ r. is_write (unit_asks nodes unit r)) i lt)) in
    λ i. record { reads = same_reads i; writes = same_writes i }
