-- One word of a mask, and the flags and items that stand for it.
use Rattle.std.proofs.Common.{◌≡◌, ℕ, zero, suc, ◌+◌, ◌-◌, ◌*◌, ◌/◌, ◌%◌, ◌<◌, ◌≤◌, min, ◌==◌, Bool, true, false, not, cond, List, [], ◌∷◌, ◌++◌, length, take, drop, replicate, get_or, count_by, refl, sym, ap, ap₂, ◌∙◌, subst, ⊎_elim, arith}
use Rattle.std.specs.Int.{bit_at}
use Rattle.std.proofs.lemmas.Nat.Bits.{bit_at-zero}
use Rattle.std.specs.List.{items_where_true}
use Rattle.std.proofs.lemmas.List.{length-take, length-drop, get_or-take, get_or-drop, get_or_past, take-append-le, take_all, length-replicate}
use Rattle.std.proofs.lemmas.Slice.{drop-append-drop}
use Rattle.std.proofs.lemmas.List.Sums.{sum_by-cons, count_by-le-length}
use Rattle.std.proofs.lemmas.Bool.{cases_lt}
use Rattle.tk_lanes.specs.Bits.{has_bit, first_bits, set_bits, words_for, HoldsFlags, IsClearFrom}
use Rattle.tk_lanes.proofs.Views.{first_bits_held, set_bits_held}
use Rattle.tk_lanes.proofs.Writes.{past_bit}

-- word k holds the 64 flags from the block k on
pub block_held : (flags : List Bool) (words : List ℕ) (k one : ℕ) → HoldsFlags flags words → 64 * k < length flags → one ≡ 1 → HoldsFlags (take 64 (drop (64 * k) flags)) (take one (drop k words))
block_held flags words k one holds lt is =
    let part = take 64 (drop (64 * k) flags) in
    let word = take one (drop k words) in
    let long_part = length-take 64 (drop (64 * k) flags) ∙ ap (min 64) (length-drop (64 * k) flags) in
    let long_word = length-take one (drop k words) ∙ ap (min one) (length-drop k words) in
    let whole = holds.size in
    record {
      size = omega (arith, long_part, long_word, whole);
      bits = λ i.
          ⊎_elim
          (λ (small : i < 64).
          let zero_ : i / 64 ≡ 0 = omega arith in
          let same : (64 * k + i) / 64 ≡ k = omega arith in
          let low : (64 * k + i) % 64 ≡ i % 64 = omega arith in
          let at : k + 0 ≡ (64 * k + i) / 64 = omega arith in
          let pos : 0 < one = omega arith in
          let here : get_or word (i / 64) 0 ≡ get_or words ((64 * k + i) / 64) 0 =
          ap (λ j. get_or word j 0) zero_ ∙ get_or-take one (drop k words) 0 0 pos ∙ get_or-drop k words 0 0 ∙ ap (λ j. get_or words j 0) at in
          ap₂ (λ w j. bit_at w j == 1) here (sym low) ∙ holds.bits (64 * k + i) ∙ sym (get_or-drop (64 * k) flags i false) ∙ sym (get_or-take 64 (drop (64 * k) flags) i false small))
          (λ (past : 64 ≤ i).
          let out : length word ≤ i / 64 = omega (arith, long_word) in
          let beyond : length part ≤ i = omega (arith, long_part) in
          past_bit word i out ∙ sym (get_or_past part i false beyond))
          (cases_lt i 64);
    }

pub clear_past : (flags : List Bool) (words : List ℕ) (n : ℕ) → HoldsFlags flags words → length flags ≡ n → IsClearFrom n words
clear_past flags words n holds long = record { clear = λ i le. holds.bits i ∙ get_or_past flags i false (omega arith) }

pub length-items_where_true : {X : Type 0} (flags : List Bool) (items : List X) → length flags ≡ length items → length (items_where_true flags items) ≡ count_by (λ b. b) flags
length-items_where_true [] items same = refl
length-items_where_true (b ∷ bs) [] same = absurd (omega arith)
length-items_where_true (true ∷ bs) (x ∷ xs) same =
    let rest : length (items_where_true bs xs) ≡ count_by (λ b. b) bs = length-items_where_true bs xs (omega arith) in
    let next = sum_by-cons (λ b. cond b 1 0) true bs in
    omega (arith, rest, next)
length-items_where_true (false ∷ bs) (x ∷ xs) same =
    let rest : length (items_where_true bs xs) ≡ count_by (λ b. b) bs = length-items_where_true bs xs (omega arith) in
    let next = sum_by-cons (λ b. cond b 1 0) false bs in
    omega (arith, rest, next)

-- the part of a column of n items that ends after 64 items, or where the column ends
pub part_is : {X : Type 0} (column : List X) (start end n : ℕ) → length column ≡ n → end ≡ min (start + 64) n → take (end - start) (drop start column) ≡ take 64 (drop start column)
part_is column start end n long is =
    ⊎_elim
    (λ (lt : start + 64 < n). let e : end - start ≡ 64 = omega arith in ap (λ m. take m (drop start column)) e)
    (λ (le : n ≤ start + 64). take_all (end - start) (drop start column) (omega (arith, length-drop start column)) ∙ sym (take_all 64 (drop start column) (omega (arith, length-drop start column))))
    (cases_lt (start + 64) n)

-- what block k of the flags, of the words and of a column of n items are
pub record IsBlock (flags part : List Bool) (word items : List ℕ) (column : List ℕ) (k : ℕ) : Type 0 where
  pub flags_are : part ≡ take 64 (drop (64 * k) flags)
  pub held : HoldsFlags part word
  pub same : length part ≡ length items
  pub items_are : items ≡ take 64 (drop (64 * k) column)
  pub few : length items ≤ 64

pub block : (flags : List Bool) (words seen column : List ℕ) (k n end one : ℕ) → HoldsFlags flags words → length flags ≡ n → length column ≡ n → 64 * k < n → end ≡ min (64 * k + 64) n → one ≡ 1 → seen ≡ words
    → IsBlock flags (take 64 (drop (64 * k) flags)) (take one (drop k seen)) (take (end - 64 * k) (drop (64 * k) column)) column k
block flags words seen column k n end one holds long same lt is single are =
    let items_are = part_is column (64 * k) end n same is in
    let a = length-take 64 (drop (64 * k) flags) ∙ ap (min 64) (length-drop (64 * k) flags) in
    let b = ap length items_are ∙ length-take 64 (drop (64 * k) column) ∙ ap (min 64) (length-drop (64 * k) column) in
    record {
      flags_are = refl;
      held = subst (λ ws. HoldsFlags (take 64 (drop (64 * k) flags)) (take one (drop k ws))) (sym are) (block_held flags words k one holds (omega arith) single);
      same = omega (arith, a, b);
      items_are = items_are;
      few = omega (arith, b);
    }

pub few_set : (flags : List Bool) (words : List ℕ) → HoldsFlags flags words → set_bits words ≤ length flags
few_set flags words holds = omega (arith, set_bits_held flags words holds, count_by-le-length (λ b. b) flags)

pub gathered : (flags : List Bool) (words column part : List ℕ) (buffer new : List ℕ) (count m : ℕ) → HoldsFlags flags words → length flags ≡ length part → m ≡ length part
    → count ≡ set_bits words → new ≡ items_where_true (first_bits m words) part ++ drop count buffer → take count new ≡ items_where_true flags part
gathered flags words column part buffer new count m holds same long counted is =
    let flagged : first_bits m words ≡ flags = first_bits_held flags words m holds (same ∙ sym long) in
    let size : length (items_where_true flags part) ≡ count = length-items_where_true flags part same ∙ sym (set_bits_held flags words holds) ∙ sym counted in
    ap (take count) (is ∙ ap (λ f. items_where_true f part ++ drop count buffer) flagged)
    ∙ take-append-le count (items_where_true flags part) (drop count buffer) (omega arith)
    ∙ take_all count (items_where_true flags part) (omega arith)

pub gathered_rest : (flags : List Bool) (words column part : List ℕ) (buffer new : List ℕ) (count m : ℕ) → HoldsFlags flags words → length flags ≡ length part → m ≡ length part
    → count ≡ set_bits words → new ≡ items_where_true (first_bits m words) part ++ drop count buffer → drop count new ≡ drop count buffer
gathered_rest flags words column part buffer new count m holds same long counted is =
    let flagged : first_bits m words ≡ flags = first_bits_held flags words m holds (same ∙ sym long) in
    let size : length (items_where_true flags part) ≡ count = length-items_where_true flags part same ∙ sym (set_bits_held flags words holds) ∙ sym counted in
    ap (drop count) (is ∙ ap (λ f. items_where_true f part ++ drop count buffer) flagged)
    ∙ drop-append-drop count buffer (items_where_true flags part) count (omega arith) size

-- words whose first n bits are set, and no other
pub all_held : (n : ℕ) (words : List ℕ) → length words ≡ words_for n → ((i : ℕ) → i < n → has_bit words i ≡ true) → ((i : ℕ) → n ≤ i → has_bit words i ≡ false) → HoldsFlags (replicate n true) words
all_held n words size below above = record {
  size = size ∙ ap words_for (sym (length-replicate n true));
  bits = λ i.
      ⊎_elim
      (λ (lt : i < n). below i lt ∙ sym (set_at n i lt))
      (λ (past : n ≤ i). above i past ∙ sym (get_or_past (replicate n true) i false (omega (arith, length-replicate n true))))
      (cases_lt i n);
}
  where
    set_at : (n i : ℕ) → i < n → get_or (replicate n true) i false ≡ true
    set_at zero i lt = absurd (omega arith)
    set_at (suc n) zero lt = refl
    set_at (suc n) (suc i) lt = set_at n i (omega arith)

-- words of zeros, turned over
pub zeros_turned : (n : ℕ) (old new : List ℕ) → ((i : ℕ) → has_bit old i ≡ false) → ((i : ℕ) → i < n → has_bit new i ≡ not (has_bit old i)) → (i : ℕ) → i < n → has_bit new i ≡ true
zeros_turned n old new none turned i lt = turned i lt ∙ ap not (none i)

pub no_bit : (k : ℕ) (i : ℕ) → has_bit (replicate k 0) i ≡ false
no_bit k i = ap (λ (w : ℕ). bit_at w (i % 64) == 1) (zero_at k (i / 64)) ∙ ap (λ (b : ℕ). b == 1) (bit_at-zero (i % 64))
  where
    zero_at : (k j : ℕ) → get_or {A = ℕ} (replicate k 0) j 0 ≡ zero
    zero_at zero j = refl
    zero_at (suc k) zero = refl
    zero_at (suc k) (suc j) = zero_at k j

pub turned_all : (n k : ℕ) (old new : List ℕ) → old ≡ replicate k 0 → length new ≡ words_for n
    → ((i : ℕ) → i < n → has_bit new i ≡ not (has_bit old i)) → ((i : ℕ) → n ≤ i → has_bit new i ≡ false) → HoldsFlags (replicate n true) new
turned_all n k old new zeros size below above =
    all_held n new size (zeros_turned n old new (λ i. ap (λ ws. has_bit ws i) zeros ∙ no_bit k i) below) above

-- words of zeros hold clear flags
pub none_held : (n k : ℕ) (words : List ℕ) → words ≡ replicate k 0 → length words ≡ words_for n → HoldsFlags (replicate n false) words
none_held n k words zeros size = record {
  size = size ∙ ap words_for (sym (length-replicate n false));
  bits = λ i. ap (λ ws. has_bit ws i) zeros ∙ no_bit k i ∙ sym (clear_at n i);
}
  where
    clear_at : (n i : ℕ) → get_or (replicate n false) i false ≡ false
    clear_at zero i = refl
    clear_at (suc n) zero = refl
    clear_at (suc n) (suc i) = clear_at n i
