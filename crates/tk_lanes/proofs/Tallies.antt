-- Bytes counted at set flags, 64 at a time.
use Rattle.std.proofs.Common.{◌≡◌, ◌≢◌, ℕ, zero, suc, ◌+◌, ◌*◌, ◌/◌, ◌%◌, ◌^◌, ◌<◌, ◌≤◌, Bool, true, false, ◌==◌, eqb, cond, ◌&&◌, List, [], ◌∷◌, length, map, min, take, drop, get_or, set, count_by, bit_and, refl, sym, ap, ap₂, ◌∙◌, ⊎_elim, arith, w64, Fits}
use Rattle.std.specs.Int.{bit_at}
use Rattle.std.specs.Int.RustNames.{count_ones}
use Rattle.std.specs.List.{items_where_true, sum_by}
use Rattle.std.specs.Simd.Lanes.{mask_l, zip2}
use Rattle.std.proofs.lemmas.Nat.{and_le_l}
use Rattle.std.proofs.lemmas.Nat.Bits.{bit_at-zero}
use Rattle.std.proofs.lemmas.List.{length-map, length-set, length-take, take_all, get_or-set_same, get_or-set_other}
use Rattle.std.proofs.lemmas.List.Sums.{sum_by-cons}
use Rattle.std.proofs.lemmas.Bool.{cases_eq}
use Rattle.std.proofs.Math.Bool.{and-true, and-false}
use Rattle.std.proofs.Math.Seq.{drop-cons}
use Rattle.tk_lanes.specs.Bits.{words_for, HoldsFlags}
use Rattle.tk_lanes.proofs.Counts.{set_bits_is}
use Rattle.tk_lanes.proofs.Words.{holds_packed}
use Rattle.tk_lanes.proofs.Writes.{test_and}
use Rattle.tk_lanes.proofs.Views.{held_both, set_bits_held}
use Rattle.tk_lanes.proofs.Positions.{counted_to, counted_more, counted_all, counted_few}

none_more : (n : ℕ) → 0 + n ≡ n
none_more n = omega arith

-- items that pass at set flags are flags that are set in both
both_count : {X : Type 0} (p : X → Bool) (part : List Bool) (items : List X) → length part ≡ length items → count_by (λ (b : Bool). b) (zip2 ◌&&◌ (map p items) part) ≡ count_by p (items_where_true part items)
both_count p [] [] same = refl
both_count p [] (x ∷ xs) same = absurd (omega arith)
both_count p (b ∷ bs) [] same = absurd (omega arith)
both_count p (true ∷ bs) (x ∷ xs) same =
    sum_by-cons (λ (b : Bool). cond b 1 0) (p x && true) (zip2 ◌&&◌ (map p xs) bs)
    ∙ ap₂ (λ (b : Bool) (n : ℕ). cond b 1 0 + n) (and-true (p x)) (both_count p bs xs (omega arith))
    ∙ sym (sum_by-cons (λ y. cond (p y) 1 0) x (items_where_true bs xs))
both_count p (false ∷ bs) (x ∷ xs) same =
    sum_by-cons (λ (b : Bool). cond b 1 0) (p x && false) (zip2 ◌&&◌ (map p xs) bs)
    ∙ ap₂ (λ (b : Bool) (n : ℕ). cond b 1 0 + n) (and-false (p x)) (both_count p bs xs (omega arith))
    ∙ none_more (count_by p (items_where_true bs xs))

one_word : (a b k j : ℕ) → (bit_at (get_or (bit_and a b ∷ []) k 0) j == 1) ≡ ((bit_at (get_or (a ∷ []) k 0) j == 1) && (bit_at (get_or (b ∷ []) k 0) j == 1))
one_word a b zero j = test_and a b j
one_word a b (suc k) j = ap (λ (x : ℕ). x == 1) (bit_at-zero j) ∙ sym (ap (λ (x : ℕ). (x == 1) && (x == 1)) (bit_at-zero j))

one_fits : (word : ℕ) → word < 2 ^ 64 → (k : ℕ) → Fits w64 (get_or (word ∷ []) k 0)
one_fits word fits zero = record { fits = fits }
one_fits word fits (suc k) = record { fits = omega arith }

packed_once : (flags : List Bool) (word : ℕ) → length flags ≤ 64 → word ≡ mask_l flags → (k : ℕ) → k < 1 → get_or (word ∷ []) k 0 ≡ mask_l (take 64 (drop (64 * k) flags))
packed_once flags word few is zero below = is ∙ ap mask_l (sym (take_all 64 flags few))
packed_once flags word few is (suc k) below = absurd (omega arith)

-- the ones that the word of the items that pass has in common with the word of the flags
pub masked_count : (p : ℕ → Bool) (part : List Bool) (items : List ℕ) (passed word : ℕ) → HoldsFlags part (word ∷ []) → length part ≡ length items → length items ≤ 64 → passed < 2 ^ 64
    → passed ≡ mask_l (map p items) → count_ones (bit_and passed word) ≡ count_by p (items_where_true part items)
masked_count p part items passed word held same few fits is =
    let both = bit_and passed word in
    let long : length (map p items) ≡ length part = length-map items p ∙ sym same in
    let left : HoldsFlags (map p items) (passed ∷ []) =
    holds_packed (map p items) (passed ∷ []) (held.size ∙ ap words_for (sym long)) (record { each = packed_once (map p items) passed (omega (arith, long)) is }) in
    let holds : HoldsFlags (zip2 ◌&&◌ (map p items) part) (both ∷ []) =
    held_both (map p items) part (passed ∷ []) (word ∷ []) (both ∷ []) left held long refl (λ i. one_word passed word (i / 64) (i % 64)) in
    let small : both < 2 ^ 64 = omega (arith, and_le_l passed word) in
    let alone : sum_by count_ones (both ∷ []) ≡ count_ones both = omega (arith, sum_by-cons count_ones both []) in
    sym alone ∙ set_bits_is (both ∷ []) (one_fits both small) ∙ set_bits_held (zip2 ◌&&◌ (map p items) part) (both ∷ []) holds ∙ both_count p part items same

pub one_taken : (words : List ℕ) (k one : ℕ) → k < length words → one ≡ 1 → take one (drop k words) ≡ get_or words k 0 ∷ []
one_taken words k one lt is = ap (λ n. take n (drop k words)) is ∙ ap (take 1) (drop-cons words k 0 lt)

-- what a count is at most
pub counted_within : (p : ℕ → Bool) (flags : List Bool) (column : List ℕ) (n : ℕ) → length column ≡ length flags → counted_to p flags column n ≤ length flags
counted_within p flags column n same =
    omega (arith, counted_few p (take n flags) (take n column) (length-take n column ∙ ap (min n) same ∙ sym (length-take n flags)), length-take n flags)

-- the codes below `codes` are counted to the end of a block, the others to its start
pub record IsTallied (flags : List Bool) (column : List ℕ) (block codes : ℕ) (counts : List ℕ) : Type 0 where
  pub long : length counts ≡ 8
  pub done : (k : ℕ) → k < codes → get_or counts k 0 ≡ counted_to (λ x. eqb x k) flags column (64 * (block + 1))
  pub left : (k : ℕ) → codes ≤ k → k < 8 → get_or counts k 0 ≡ counted_to (λ x. eqb x k) flags column (64 * block)

-- one code more of a block
pub tallied_more : (flags : List Bool) (column : List ℕ) (block code : ℕ) (counts : List ℕ) (more : ℕ) → length column ≡ length flags → code < 8
    → more ≡ count_by (λ x. eqb x code) (items_where_true (take 64 (drop (64 * block) flags)) (take 64 (drop (64 * block) column)))
    → IsTallied flags column block code counts
    → get_or counts code 0 + more ≡ counted_to (λ x. eqb x code) flags column (64 * (block + 1))
tallied_more flags column block code counts more same lt is tallied =
    ap₂ (λ (a b : ℕ). a + b) (tallied.left code (omega arith) lt) is ∙ sym (counted_more (λ x. eqb x code) flags column block same)

pub tallied_one : (flags : List Bool) (column : List ℕ) (block code : ℕ) (counts : List ℕ) (sum : ℕ) → code < 8
    → sum ≡ counted_to (λ x. eqb x code) flags column (64 * (block + 1)) → IsTallied flags column block code counts → IsTallied flags column block (code + 1) (set counts code sum)
tallied_one flags column block code counts sum lt is tallied = record {
  long = length-set counts code sum ∙ tallied.long;
  done = λ k below.
      ⊎_elim
      (λ (e : k ≡ code). ap (λ j. get_or (set counts code sum) j 0) e ∙ get_or-set_same counts code sum 0 (omega (arith, tallied.long)) ∙ is ∙ sym (ap (λ (j : ℕ). counted_to (λ x. eqb x j) flags column (64 * (block + 1))) e))
      (λ (ne : k ≢ code). get_or-set_other counts code k sum 0 ne ∙ tallied.done k (omega arith))
      (cases_eq k code);
  left = λ k le few. let ne : k ≢ code = omega arith in get_or-set_other counts code k sum 0 ne ∙ tallied.left k (omega arith) few;
}

pub tallied_all : (flags : List Bool) (column : List ℕ) (block : ℕ) (counts : List ℕ) → length column ≡ length flags → length flags ≤ 64 * block → IsTallied flags column block 0 counts
    → (k : ℕ) → k < 8 → get_or counts k 0 ≡ count_by (λ x. eqb x k) (items_where_true flags column)
tallied_all flags column block counts same past tallied k lt = tallied.left k (omega arith) lt ∙ counted_all (λ x. eqb x k) flags column (64 * block) same past
