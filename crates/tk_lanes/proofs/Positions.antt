-- The places of set flags, and the counts of what stands there.
use Rattle.std.proofs.Common.{◌≡◌, ℕ, zero, suc, ◌+◌, ◌-◌, ◌*◌, ◌^◌, ◌<◌, ◌≤◌, min, Bool, true, false, cond, List, [], ◌∷◌, ◌++◌, length, take, drop, get_or, count_by, refl, sym, ap, ap₂, ◌∙◌, ⊎_elim, arith, append_assoc}
use Rattle.std.specs.List.{items_where_true}
use Rattle.std.specs.Prelude.{Option, Some, None, IfSome, MatchOption}
use Rattle.std.proofs.lemmas.List.{append-nil, get_or-drop, get_or_past, take_all, length-take}
use Rattle.std.proofs.lemmas.List.Sums.{sum_by-append, count_by-le-length}
use Rattle.std.proofs.lemmas.Bool.{cases_lt, false≢true}
use Rattle.std.proofs.Math.Seq.{drop-cons, take-add}
use Rattle.tk_lanes.proofs.Blocks.{length-items_where_true}
use Rattle.tk_lanes.specs.Lists.{positions_from, positions}
use Rattle.tk_lanes.specs.Flags.{IsNextSet, IsNoneSet}

pub below_length : (flags : List Bool) (at : ℕ) → get_or flags at false ≡ true → at < length flags
below_length flags at set =
    ⊎_elim (λ (lt : at < length flags). lt) (λ (past : length flags ≤ at). absurd (false≢true (sym (get_or_past flags at false past) ∙ set))) (cases_lt at (length flags))

pub bounded : (flags : List Bool) (from : ℕ) (o : Option ℕ) → length flags ≤ 2 ^ 32 → MatchOption o (IsNoneSet from flags) (IsNextSet from flags) → IfSome o (λ at. (at < length flags) × (at < 2 ^ 32))
bounded flags from None few none = tt
bounded flags from (Some at) few next = (below_length flags at next.set, omega (arith, below_length flags at next.set))

here : (flags : List Bool) (from : ℕ) (b : Bool) → from < length flags → get_or flags from false ≡ b → drop from flags ≡ b ∷ drop (from + 1) flags
here flags from b lt is =
    let next : suc from ≡ from + 1 = omega arith in
    drop-cons flags from false lt ∙ ap₂ (λ x n. x ∷ drop n flags) is next

next_position_by : (k : ℕ) (flags : List Bool) (from at : ℕ) → k + from ≡ at → IsNextSet from flags at
    → positions_from from (λ (b : Bool). b) (drop from flags) ≡ at ∷ positions_from (at + 1) (λ (b : Bool). b) (drop (at + 1) flags)
next_position_by zero flags from at is next =
    let same : from ≡ at = omega arith in
    let set : get_or flags from false ≡ true = ap (λ i. get_or flags i false) same ∙ next.set in
    ap (positions_from from (λ (b : Bool). b)) (here flags from true (below_length flags from set) set)
    ∙ ap (λ i. i ∷ positions_from (i + 1) (λ (b : Bool). b) (drop (i + 1) flags)) same
next_position_by (suc k) flags from at is next =
    let lt : from < at = omega arith in
    let clear : get_or flags from false ≡ false = next.least from (omega arith) lt in
    let within : from < length flags = omega (arith, below_length flags at next.set) in
    ap (positions_from from (λ (b : Bool). b)) (here flags from false within clear)
    ∙ next_position_by k flags (from + 1) at (omega arith) (record { from = omega arith; set = next.set; least = λ i le less. next.least i (omega arith) less })

pub next_position : (flags : List Bool) (from at : ℕ) → IsNextSet from flags at
    → positions_from from (λ (b : Bool). b) (drop from flags) ≡ at ∷ positions_from (at + 1) (λ (b : Bool). b) (drop (at + 1) flags)
next_position flags from at next = next_position_by (at - from) flags from at (omega (arith, next.from)) next

no_positions : (n : ℕ) (xs : List Bool) → ((i : ℕ) → get_or xs i false ≡ false) → positions_from n (λ (b : Bool). b) xs ≡ []
no_positions n [] clear = refl
no_positions n (x ∷ xs) clear =
    ap (λ (b : Bool). cond b (n ∷ positions_from (n + 1) (λ (b : Bool). b) xs) (positions_from (n + 1) (λ (b : Bool). b) xs)) (clear 0) ∙ no_positions (n + 1) xs (λ i. clear (suc i))

pub no_position : (flags : List Bool) (from : ℕ) → IsNoneSet from flags → positions_from from (λ (b : Bool). b) (drop from flags) ≡ []
no_position flags from none = no_positions from (drop from flags) (λ i. get_or-drop from flags i false ∙ none.none (from + i) (omega arith))

-- the places found so far, and those still to be found
pub record AreFound (list : List ℕ) (flags : List Bool) (from : ℕ) : Type 0 where
  pub all : list ++ positions_from from (λ (b : Bool). b) (drop from flags) ≡ positions (λ (b : Bool). b) flags
  pub within : from ≤ length flags

pub found_more : (list : List ℕ) (flags : List Bool) (from at : ℕ) → AreFound list flags from → IsNextSet from flags at → AreFound (list ++ at ∷ []) flags (at + 1)
found_more list flags from at found next = record {
  all = append_assoc list (at ∷ []) (positions_from (at + 1) (λ (b : Bool). b) (drop (at + 1) flags)) ∙ ap (λ ps. list ++ ps) (sym (next_position flags from at next)) ∙ found.all;
  within = omega (arith, below_length flags at next.set);
}

pub found_all : (list : List ℕ) (flags : List Bool) (from : ℕ) → AreFound list flags from → IsNoneSet from flags → list ≡ positions (λ (b : Bool). b) flags
found_all list flags from found none =
    sym (append-nil list) ∙ ap (λ ps. list ++ ps) (sym (no_position flags from none)) ∙ found.all

items-append : {X : Type 0} (fs gs : List Bool) (xs ys : List X) → length fs ≡ length xs → items_where_true (fs ++ gs) (xs ++ ys) ≡ items_where_true fs xs ++ items_where_true gs ys
items-append [] gs [] ys same = refl
items-append [] gs (x ∷ xs) ys same = absurd (omega arith)
items-append (f ∷ fs) gs [] ys same = absurd (omega arith)
items-append (true ∷ fs) gs (x ∷ xs) ys same = ap (λ zs. x ∷ zs) (items-append fs gs xs ys (omega arith))
items-append (false ∷ fs) gs (x ∷ xs) ys same = items-append fs gs xs ys (omega arith)

-- the bytes that pass at the set flags among the first n
abbrev pub counted_to : (ℕ → Bool) → List Bool → List ℕ → ℕ → ℕ
counted_to p flags column n = count_by p (items_where_true (take n flags) (take n column))

pub counted_more : (p : ℕ → Bool) (flags : List Bool) (column : List ℕ) (block : ℕ) → length column ≡ length flags
    → counted_to p flags column (64 * (block + 1)) ≡ counted_to p flags column (64 * block) + count_by p (items_where_true (take 64 (drop (64 * block) flags)) (take 64 (drop (64 * block) column)))
counted_more p flags column block same =
    let next : 64 * (block + 1) ≡ 64 * block + 64 = omega arith in
    let prefix : length (take (64 * block) flags) ≡ length (take (64 * block) column) =
    length-take (64 * block) flags ∙ ap (min (64 * block)) (sym same) ∙ sym (length-take (64 * block) column) in
    ap (counted_to p flags column) next
    ∙ ap (count_by p) (ap₂ items_where_true (take-add (64 * block) 64 flags) (take-add (64 * block) 64 column)
    ∙ items-append (take (64 * block) flags) (take 64 (drop (64 * block) flags)) (take (64 * block) column) (take 64 (drop (64 * block) column)) prefix)
    ∙ sum_by-append (λ x. cond (p x) 1 0) (items_where_true (take (64 * block) flags) (take (64 * block) column)) (items_where_true (take 64 (drop (64 * block) flags)) (take 64 (drop (64 * block) column)))

pub counted_all : (p : ℕ → Bool) (flags : List Bool) (column : List ℕ) (n : ℕ) → length column ≡ length flags → length flags ≤ n → counted_to p flags column n ≡ count_by p (items_where_true flags column)
counted_all p flags column n same past = ap (count_by p) (ap₂ items_where_true (take_all n flags past) (take_all n column (omega arith)))

pub counted_few : (p : ℕ → Bool) (flags : List Bool) (column : List ℕ) → length column ≡ length flags → count_by p (items_where_true flags column) ≤ length flags
counted_few p flags column same =
    omega (arith, count_by-le-length p (items_where_true flags column), length-items_where_true flags column (sym same), count_by-le-length (λ b. b) flags)
