-- Words as the flags that they hold.
use Rattle.std.proofs.Common.{◌≡◌, ℕ, zero, suc, ◌+◌, ◌*◌, ◌/◌, ◌%◌, ◌^◌, ◌<◌, ◌≤◌, Bool, false, not, cond, ◌&&◌, ◌||◌, List, [], ◌∷◌, length, map, get_or, count_by, refl, sym, ap, ap₂, ◌∙◌, subst, ⊎_elim, arith, ◌==◌, bit_and}
use Rattle.std.specs.Int.{bit_at}
use Rattle.std.specs.List.{range_with_len}
use Rattle.std.specs.Prelude.{Option, Some, None, MatchOption}
use Rattle.std.specs.Simd.Lanes.{zip2}
use Rattle.std.proofs.lemmas.Simd.{length-zip2, get_or-zip2}
use Rattle.std.proofs.lemmas.List.{same_lists, get_or_past, get_or_default, get_or-map, length-map}
use Rattle.std.proofs.lemmas.List.FromFn.{length-map-range_with_len, get_or-map-range_with_len}
use Rattle.std.proofs.lemmas.List.Sums.{sum_by-cons}
use Rattle.std.proofs.lemmas.Bool.{cases_lt}
use Rattle.std.proofs.lemmas.Nat.Bits.{shr_and_one}
use Rattle.tk_lanes.specs.Bits.{has_bit, first_bits, set_bits, words_for, HoldsFlags, IsClearFrom, IsFirstFrom}
use Rattle.tk_lanes.specs.Flags.{IsNextSet, IsNoneSet}

pub length-first_bits : (n : ℕ) (words : List ℕ) → length (first_bits n words) ≡ n
unfolding first_bits
length-first_bits n words = length-map-range_with_len (has_bit words) 0 n

get_or-first_bits : (n : ℕ) (words : List ℕ) (i : ℕ) → i < n → get_or (first_bits n words) i false ≡ has_bit words i
unfolding first_bits
get_or-first_bits n words i lt = get_or-map-range_with_len (has_bit words) 0 n i i false lt (omega arith)

-- words hold the flags that were read from them
pub first_bits_held : (flags : List Bool) (words : List ℕ) (n : ℕ) → HoldsFlags flags words → length flags ≡ n → first_bits n words ≡ flags
first_bits_held flags words n holds long =
    same_lists (first_bits n words) flags (length-first_bits n words ∙ sym long)
    (λ k d lt.
    let below : k < n = omega (arith, length-first_bits n words) in
    let within : k < length flags = omega arith in
    get_or_default (first_bits n words) k d false lt ∙ get_or-first_bits n words k below ∙ holds.bits k ∙ get_or_default flags k false d within)

pub held_again : (flags : List Bool) (words : List ℕ) (n : ℕ) → HoldsFlags flags words → length flags ≡ n → HoldsFlags (first_bits n words) words
held_again flags words n holds long = subst (λ f. HoldsFlags f words) (sym (first_bits_held flags words n holds long)) holds

pub held_both : (a b : List Bool) (left right new : List ℕ) → HoldsFlags a left → HoldsFlags b right → length a ≡ length b → length new ≡ length left
    → ((i : ℕ) → has_bit new i ≡ (has_bit left i && has_bit right i)) → HoldsFlags (zip2 ◌&&◌ a b) new
held_both a b left right new l r same size each =
    let long = length-zip2 ◌&&◌ a b same in
    record {
      size = size ∙ l.size ∙ ap words_for (sym long);
      bits = λ i.
          each i ∙ ap₂ (λ x y. x && y) (l.bits i) (r.bits i)
          ∙ ⊎_elim
          (λ (lt : i < length a). sym (get_or-zip2 ◌&&◌ a b i false false false lt (omega arith)))
          (λ (past : length a ≤ i). ap₂ (λ x y. x && y) (get_or_past a i false past) (get_or_past b i false (omega arith)) ∙ sym (get_or_past (zip2 ◌&&◌ a b) i false (omega (arith, long))))
          (cases_lt i (length a));
    }

pub held_either : (a b : List Bool) (left right new : List ℕ) → HoldsFlags a left → HoldsFlags b right → length a ≡ length b → length new ≡ length left
    → ((i : ℕ) → has_bit new i ≡ (has_bit left i || has_bit right i)) → HoldsFlags (zip2 ◌||◌ a b) new
held_either a b left right new l r same size each =
    let long = length-zip2 ◌||◌ a b same in
    record {
      size = size ∙ l.size ∙ ap words_for (sym long);
      bits = λ i.
          each i ∙ ap₂ (λ x y. x || y) (l.bits i) (r.bits i)
          ∙ ⊎_elim
          (λ (lt : i < length a). sym (get_or-zip2 ◌||◌ a b i false false false lt (omega arith)))
          (λ (past : length a ≤ i). ap₂ (λ x y. x || y) (get_or_past a i false past) (get_or_past b i false (omega arith)) ∙ sym (get_or_past (zip2 ◌||◌ a b) i false (omega (arith, long))))
          (cases_lt i (length a));
    }

pub held_turned : (a : List Bool) (n : ℕ) (old new : List ℕ) → HoldsFlags a old → length a ≡ n → length new ≡ length old
    → ((i : ℕ) → i < n → has_bit new i ≡ not (has_bit old i)) → ((i : ℕ) → n ≤ i → has_bit new i ≡ false) → HoldsFlags (map not a) new
held_turned a n old new holds long size below above = record {
  size = size ∙ holds.size ∙ ap words_for (sym (length-map a not));
  bits = λ i.
      ⊎_elim
      (λ (lt : i < n). below i lt ∙ ap not (holds.bits i) ∙ sym (get_or-map not a i false false (omega arith)))
      (λ (past : n ≤ i). above i past ∙ sym (get_or_past (map not a) i false (omega (arith, length-map a not))))
      (cases_lt i n);
}

pub next_set : (flags : List Bool) (words : List ℕ) (from at : ℕ) → HoldsFlags flags words → IsFirstFrom from words at → IsNextSet from flags at
next_set flags words from at holds first = record {
  from = first.from;
  set = sym (holds.bits at) ∙ first.set;
  least = λ i le lt. sym (holds.bits i) ∙ first.least i le lt;
}

pub none_set : (flags : List Bool) (words : List ℕ) (from : ℕ) → HoldsFlags flags words → IsClearFrom from words → IsNoneSet from flags
none_set flags words from holds clear = record { none = λ i le. sym (holds.bits i) ∙ clear.clear i le }

-- a count by positions is a count of flags
count_flags : (f : ℕ → Bool) (flags : List Bool) (a m : ℕ) → length flags ≤ m → ((i : ℕ) → f (a + i) ≡ get_or flags i false) → count_by f (range_with_len a m) ≡ count_by (λ b. b) flags
count_flags f [] a zero le each = refl
count_flags f [] a (suc m) le each =
    let start : a ≡ a + 0 = omega arith in
    sum_by-cons (λ x. cond (f x) 1 0) a (range_with_len (a + 1) m) ∙ ap₂ (λ b n. cond b 1 0 + n) (ap f start ∙ each 0)
    (count_flags f [] (a + 1) m (omega arith) (λ i. let next : a + 1 + i ≡ a + suc i = omega arith in ap f next ∙ each (suc i)))
count_flags f (x ∷ xs) a zero le each = absurd (omega arith)
count_flags f (x ∷ xs) a (suc m) le each =
    let start : a ≡ a + 0 = omega arith in
    sum_by-cons (λ x. cond (f x) 1 0) a (range_with_len (a + 1) m) ∙ ap₂ (λ b n. cond b 1 0 + n) (ap f start ∙ each 0)
    (count_flags f xs (a + 1) m (omega arith) (λ i. let next : a + 1 + i ≡ a + suc i = omega arith in ap f next ∙ each (suc i)))
    ∙ sym (sum_by-cons (λ b. cond b 1 0) x xs)

pub set_bits_held : (flags : List Bool) (words : List ℕ) → HoldsFlags flags words → set_bits words ≡ count_by (λ b. b) flags
unfolding set_bits
set_bits_held flags words holds =
    count_flags (has_bit words) flags 0 (64 * length words) (omega (arith, holds.size)) (λ i. let same : 0 + i ≡ i = omega arith in ap (has_bit words) same ∙ holds.bits i)

-- the size of a mask of at most 2 ^ 32 flags
pub short : (n : ℕ) (words seen : List ℕ) → HoldsFlags (first_bits n words) words → n ≤ 2 ^ 32 → seen ≡ words → length seen ≤ 2 ^ 26
short n words seen holds small same = omega (arith, holds.size, length-first_bits n words, ap length same)

pub first_is : (flags : List Bool) (from : ℕ) (words : List ℕ) (o : Option ℕ) → HoldsFlags flags words → MatchOption o (IsClearFrom from words) (IsFirstFrom from words) → MatchOption o (IsNoneSet from flags) (IsNextSet from flags)
first_is flags from words None holds clear = none_set flags words from holds clear
first_is flags from words (Some at) holds first = next_set flags words from at holds first

-- a bit, shifted to the start of its word, is its flag
pub bit_read : (flags : List Bool) (words : List ℕ) (at word : ℕ) → HoldsFlags flags words → at < length flags → word ≡ get_or words (at / 64) word → (bit_and (word / 2 ^ (at % 64)) 1 == 1) ≡ get_or flags at false
bit_read flags words at word holds lt is =
    let within : at / 64 < length words = omega (arith, holds.size) in
    ap (λ (b : ℕ). b == 1) (shr_and_one word (at % 64) ∙ ap (λ (w : ℕ). bit_at w (at % 64)) (is ∙ get_or_default words (at / 64) word 0 within)) ∙ holds.bits at
