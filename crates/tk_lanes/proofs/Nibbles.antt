-- The lanes of four bits in the bytes of a word.
use Rattle.std.proofs.Common.{◌≡◌, ℕ, zero, suc, ◌+◌, ◌*◌, ◌/◌, ◌%◌, ◌^◌, ◌<◌, ◌≤◌, Bool, false, cond, ltb, List, [], ◌∷◌, length, map, get_or, replicate, bit_and, refl, sym, ap, ◌∙◌, subst, ⊎_elim, arith, w8}
use Rattle.std.specs.Simd.Lanes.{digits_l, number_l, zip2, mask_l, top}
use Rattle.std.proofs.lemmas.Simd.{get_or_narrower, get_or-zip2, get_or-replicate, bit_mask_l, tops_compared, zip2_splat_left, mask_l-mod}
use Rattle.std.proofs.lemmas.Nat.{and_mask, shr-shr, pow-add}
use Rattle.std.proofs.lemmas.List.{get_or-map, length-map}
use Rattle.std.proofs.Math.Nat.{pow-suc}
use Rattle.std.proofs.lemmas.Bool.{cases_lt}
use Rattle.std.proofs.lemmas.Bool.Decides.{nat_tests}
use Rattle.tk_lanes.specs.Lanes.{lane_at}

abbrev pub bytes_of : ℕ → List ℕ
bytes_of word = digits_l 256 8 (number_l (2 ^ 64) (word ∷ []))

pow_bytes : (k : ℕ) → 256 ^ k ≡ 2 ^ (8 * k)
pow_bytes zero = refl
pow_bytes (suc k) =
    let more : 8 * suc k ≡ 8 * k + 8 = omega arith in
    pow-suc 256 k ∙ ap (λ n. n * 256) (pow_bytes k) ∙ sym (pow-add 2 (8 * k) 8) ∙ ap (λ n. 2 ^ n) (sym more)

byte_at : (word k : ℕ) → word < 2 ^ 64 → k < 8 → get_or (bytes_of word) k 0 ≡ word / 2 ^ (8 * k) % 256
byte_at word k fits lt =
    let position : k ≡ 8 * 0 + k = omega arith in
    ap (λ n. get_or (bytes_of word) n 0) position ∙ get_or_narrower (2 ^ 64) 8 256 8 (word ∷ []) 0 k refl (fits, tt) lt (omega arith)
    ∙ ap (λ n. word / n % 256) (pow_bytes k)

pub even_lane : (word k : ℕ) → word < 2 ^ 64 → k < 8 → get_or (zip2 bit_and (bytes_of word) (replicate 8 15)) k 0 ≡ lane_at word (2 * k)
even_lane word k fits lt =
    let position : 8 * k ≡ 4 * (2 * k) = omega arith in
    let low : word / 2 ^ (8 * k) % 256 % 16 ≡ word / 2 ^ (8 * k) % 16 = omega arith in
    get_or-zip2 bit_and (bytes_of word) (replicate 8 15) k 0 0 0 lt lt
    ∙ ap (bit_and (get_or (bytes_of word) k 0)) (get_or-replicate 8 k 15 0 lt)
    ∙ and_mask (get_or (bytes_of word) k 0) 4
    ∙ ap (λ n. n % 16) (byte_at word k fits lt) ∙ low ∙ ap (λ n. word / 2 ^ n % 16) position

pub odd_lane : (word k : ℕ) → word < 2 ^ 64 → k < 8 → get_or (zip2 (λ a b. a / 2 ^ b) (bytes_of word) (replicate 8 4)) k 0 ≡ lane_at word (2 * k + 1)
odd_lane word k fits lt =
    let position : 8 * k + 4 ≡ 4 * (2 * k + 1) = omega arith in
    let high : word / 2 ^ (8 * k) % 256 / 16 ≡ word / 2 ^ (8 * k) / 16 % 16 = omega arith in
    get_or-zip2 (λ a b. a / 2 ^ b) (bytes_of word) (replicate 8 4) k 0 0 0 lt lt
    ∙ ap (λ b. get_or (bytes_of word) k 0 / 2 ^ b) (get_or-replicate 8 k 4 0 lt)
    ∙ ap (λ n. n / 16) (byte_at word k fits lt) ∙ high ∙ ap (λ n. n % 16) (shr-shr word (8 * k) 4) ∙ ap (λ n. word / 2 ^ n % 16) position

-- ---- no lane of a mask is set

mask_of_none : (bs : List Bool) → ((k : ℕ) → k < length bs → get_or bs k false ≡ false) → mask_l bs ≡ 0
mask_of_none [] none = refl
mask_of_none (b ∷ bs) none =
    let here : b ≡ false = none 0 (omega arith) in
    let rest : mask_l bs ≡ 0 = mask_of_none bs (λ k lt. none (suc k) (omega arith)) in
    ap (λ x. cond x 1 0 + 2 * mask_l bs) here ∙ omega arith

none_of_mask : (bs : List Bool) (k : ℕ) → mask_l bs ≡ 0 → cond (get_or bs k false) 1 zero ≡ zero
none_of_mask bs k none = sym (bit_mask_l bs k) ∙ ap (λ n. n / 2 ^ k % 2) none ∙ omega arith

from_bit : (a : ℕ) → cond (ltb 15 a) 1 zero ≡ zero → a ≤ 15
from_bit a e = grind (arith, nat_tests)

to_bit : (a : ℕ) → a ≤ 15 → ltb 15 a ≡ false
to_bit a le = grind (arith, nat_tests)

pub over_mask : (sums : List ℕ) → length sums ≡ 8
    → mask_l (map (top 7) (zip2 (λ (a b : ℕ). cond (ltb a b) 255 0) (replicate 8 15) sums)) % 2 ^ 64 ≡ mask_l (map (λ y. ltb 15 y) sums)
over_mask sums long =
    ap (λ (l : List Bool). mask_l l % 2 ^ 64) (tops_compared w8 ltb (replicate 8 15) sums ∙ zip2_splat_left ltb 15 8 sums long)
    ∙ mask_l-mod (map (λ y. ltb 15 y) sums) 64 (omega (arith, length-map sums (λ y. ltb 15 y)))

pub all_fit : (sums : List ℕ) → length sums ≡ 8 → mask_l (map (λ y. ltb 15 y) sums) ≡ 0 → (k : ℕ) → k < 8 → get_or sums k 0 ≤ 15
all_fit sums long none k lt =
    from_bit (get_or sums k 0) (ap (λ b. cond b 1 zero) (sym (get_or-map (λ y. ltb 15 y) sums k 0 false (omega arith))) ∙ none_of_mask (map (λ y. ltb 15 y) sums) k none)

pub none_over : (sums : List ℕ) → length sums ≡ 8 → ((k : ℕ) → k < 8 → get_or sums k 0 ≤ 15) → mask_l (map (λ y. ltb 15 y) sums) ≡ 0
none_over sums long fit =
    mask_of_none (map (λ y. ltb 15 y) sums)
    (λ k lt.
    let within : k < length sums = omega (arith, length-map sums (λ y. ltb 15 y)) in
    get_or-map (λ y. ltb 15 y) sums k 0 false within ∙ to_bit (get_or sums k 0) (fit k (omega arith)))

abbrev pub sums_of : List ℕ → List ℕ → List ℕ
sums_of held asked = zip2 (λ a b. (a + b) % 256) held asked

pub sum_at : (held asked : List ℕ) → length held ≡ 8 → length asked ≡ 8 → (k : ℕ) → k < 8 → get_or held k 0 < 16 → get_or asked k 0 < 16
    → get_or (sums_of held asked) k 0 ≡ get_or held k 0 + get_or asked k 0
sum_at held asked h a k lt small little =
    get_or-zip2 (λ x y. (x + y) % 256) held asked k 0 0 0 (omega arith) (omega arith) ∙ omega arith

-- the even and the odd lanes are all lanes
pub both_halves : (word need : ℕ) → ((k : ℕ) → k < 8 → lane_at word (2 * k) + lane_at need (2 * k) ≤ 15) → ((k : ℕ) → k < 8 → lane_at word (2 * k + 1) + lane_at need (2 * k + 1) ≤ 15)
    → (k : ℕ) → k < 16 → lane_at word k + lane_at need k ≤ 15
both_halves word need evens odds k lt =
    ⊎_elim
    (λ (even : k % 2 < 1).
    let split : 2 * (k / 2) ≡ k = omega arith in
    subst (λ n. lane_at word n + lane_at need n ≤ 15) split (evens (k / 2) (omega arith)))
    (λ (odd : 1 ≤ k % 2).
    let split : 2 * (k / 2) + 1 ≡ k = omega arith in
    subst (λ n. lane_at word n + lane_at need n ≤ 15) split (odds (k / 2) (omega arith)))
    (cases_lt (k % 2) 1)
