-- The last events of a record are those whose flags are true.
use Rattle.std.proofs.Common.{◌≡◌, ℕ, zero, suc, ◌+◌, ◌<◌, ◌≤◌, Bool, true, false, cond, List, [], ◌∷◌, length, map, get_or, drop, refl, ap, ◌∙◌, arith}
use Rattle.std.specs.Prelude.{◌==◌, filter}
use Rattle.std.proofs.Math.ListN.{get_or-map}
use Rattle.tk_events.specs.declared.events.Entry.{Entry}
use Rattle.tk_record.specs.Selections.{PositionedEntry, positioned, positioned_from}

-- the flag of an event
abbrev flag_of : List Bool → PositionedEntry → Bool
flag_of flags x = get_or flags x.position false

-- the first event is kept where its flag is true
first_kept : (x : PositionedEntry) (xs : List PositionedEntry) (flag same : Bool) → flag ≡ same
    → cond flag (x ∷ xs) xs ≡ cond same (x ∷ xs) xs
first_kept x xs flag same is = ap (λ (b : Bool). cond b (x ∷ xs) xs) is

here : (flags : List Bool) (n : ℕ) (flag : Bool) → get_or flags (n + 0) false ≡ flag
    → get_or flags n false ≡ flag
here flags n flag is = let same : n ≡ n + 0 = omega arith in ap (λ k. get_or flags k false) same ∙ is

there : (flags : List Bool) (n i : ℕ) (flag : Bool) → get_or flags (n + suc i) false ≡ flag
    → get_or flags (n + 1 + i) false ≡ flag
there flags n i flag is =
    let same : n + 1 + i ≡ n + suc i = omega arith in ap (λ k. get_or flags k false) same ∙ is

-- all events are kept where their flags are true
all_kept : (flags : List Bool) (n : ℕ) (es : List Entry)
    → ((i : ℕ) → i < length es → get_or flags (n + i) false ≡ true)
    → filter (flag_of flags) (positioned_from n es) ≡ positioned_from n es
unfolding positioned_from
all_kept flags n [] at = refl
all_kept flags n (e ∷ es) at =
    let x : PositionedEntry = record { position = n; entry = e } in
    first_kept x _ _ true (here flags n true (at 0 (omega arith)))
    ∙ ap (λ xs. x ∷ xs)
    (all_kept flags (n + 1) es (λ i low. there flags n i true (at (suc i) (omega arith))))

-- the first events are dropped where their flags are false, and those of the others are true
pub last_kept : (flags : List Bool) (first n : ℕ) (es : List Entry)
    → ((i : ℕ) → i < first → get_or flags (n + i) false ≡ false)
    → ((i : ℕ) → first ≤ i → i < length es → get_or flags (n + i) false ≡ true)
    → filter (flag_of flags) (positioned_from n es) ≡ drop first (positioned_from n es)
unfolding positioned_from
last_kept flags zero n es below from = all_kept flags n es (λ i low. from i (omega arith) low)
last_kept flags (suc first) n [] below from = refl
last_kept flags (suc first) n (e ∷ es) below from =
    let x : PositionedEntry = record { position = n; entry = e } in
    first_kept x _ _ false (here flags n false (below 0 (omega arith)))
    ∙ last_kept flags first (n + 1) es
    (λ i low. there flags n i false (below (suc i) (omega arith)))
    (λ i low high. there flags n i true (from (suc i) (omega arith) (omega arith)))

-- the events of a column of zeros and then ones are the last ones
pub last_by_column : (column : List ℕ) (first : ℕ) (es : List Entry)
    → ((i : ℕ) → i < first → get_or column i 0 ≡ 0)
    → ((i : ℕ) → first ≤ i → i < length es → get_or column i 0 ≡ 1)
    → filter (flag_of (map (λ x. x == 1) column)) (positioned es) ≡ drop first (positioned es)
last_by_column column first es below from =
    last_kept (map (λ x. x == 1) column) first 0 es
    (λ i low. at i 0 (below i low)) (λ i low high. at i 1 (from i low high))
  where
    at : (i value : ℕ) → get_or column i 0 ≡ value
        → get_or (map (λ x. x == 1) column) (0 + i) false ≡ (value == 1)
    at i value is =
        let same : 0 + i ≡ i = omega arith in
        ap (λ k. get_or (map (λ x. x == 1) column) k false) same
        ∙ get_or-map (λ x. x == 1) column i 0
        ∙ ap (λ x. x == 1) is
