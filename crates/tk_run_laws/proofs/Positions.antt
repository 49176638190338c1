-- Elements of lists at their positions.
use Rattle.std.proofs.Common.{◌≡◌, ◌<◌, ℕ, zero, suc, Bool, true, false, not, cond, ◌&&◌, ◌||◌, List, [], ◌∷◌, map, filter, take, drop, Some, option_map, slice_get, refl, sym, ap, ap₂, ◌∙◌, arith, ⊎_elim}
use Rattle.std.specs.List.{list_any}
use Rattle.std.proofs.lemmas.Bool.{true≢false, and_from, and_parts, cases_Bool, or_cases, or_left, or_right}
use Rattle.std.proofs.lemmas.Option.{same_Some, none-some, slice_get-map}
use Rattle.std.proofs.Math.Bool.{or_assoc}
use Rattle.tk_base.proofs.Truth.{or-false}
use Rattle.tk_run_laws.proofs.Orders.{Only, any_kept, encloses}
use Rattle.tk_run_laws.specs.Listening.{is_followed, precedes}

-- an element that passes the test
pub record Found {A : Type 0} (p : A → Bool) (xs : List A) : Type 0 where
  pub position : ℕ
  pub element : A
  pub stands : slice_get xs position ≡ Some element
  pub passes : p element ≡ true

abbrev first : {A : Type 0} (p : A → Bool) (x : A) (xs : List A) → p x ≡ true → Found p (x ∷ xs)
first p x xs h = record { position = 0; element = x; stands = refl; passes = h }

abbrev next : {A : Type 0} (p : A → Bool) (x : A) (xs : List A) → Found p xs → Found p (x ∷ xs)
next p x xs f = record { position = suc f.position; element = f.element; stands = f.stands; passes = f.passes }

pub any_at : {A : Type 0} (p : A → Bool) (xs : List A) → list_any p xs ≡ true → Found p xs
any_at p [] h = absurd (true≢false (sym h))
any_at p (x ∷ xs) h = ⊎_elim {C = Found p (x ∷ xs)}
    (λ (here : p x ≡ true). first p x xs here)
    (λ (later : list_any p xs ≡ true). next p x xs (any_at p xs later))
    (or_cases (p x) (list_any p xs) h)

pub any_from : {A : Type 0} (p : A → Bool) (xs : List A) (i : ℕ) (x : A) → slice_get xs i ≡ Some x → p x ≡ true → list_any p xs ≡ true
any_from p [] i x at h = absurd (none-some x at)
any_from p (y ∷ ys) zero x at h = ap (λ b. b || list_any p ys) (ap p (same_Some y x at) ∙ h)
any_from p (y ∷ ys) (suc i) x at h = ap (λ b. p y || b) (any_from p ys i x at h) ∙ or_right (p y) true refl

-- ---- what comes earlier and later

-- an element that passes the test, before position i
pub record Earlier {A : Type 0} (p : A → Bool) (xs : List A) (i : ℕ) : Type 0 where
  pub found : Found p xs
  pub before : found.position < i

-- an element that passes the test, after position i
pub record Later {A : Type 0} (p : A → Bool) (xs : List A) (i : ℕ) : Type 0 where
  pub found : Found p xs
  pub after : i < found.position

-- each element that passes q has one before it that passes p
pub precedes_from : {A : Type 0} (p q : A → Bool) (xs : List A) → ((i : ℕ) (x : A) → slice_get xs i ≡ Some x → q x ≡ true → Earlier p xs i) → precedes p q xs ≡ true
precedes_from p q [] h = refl
precedes_from {A} p q (y ∷ ys) h =
    let rest : p y ≡ false → precedes p q ys ≡ true = λ n. precedes_from p q ys (λ i x at is. less i n (h (suc i) x at is)) in
    and_from (not (q y)) (p y || precedes p q ys)
    (⊎_elim (λ t. none (h 0 y refl t)) (λ f. ap not f) (cases_Bool (q y)))
    (⊎_elim (λ t. or_left (p y) (precedes p q ys) t) (λ f. or_right (p y) (precedes p q ys) (rest f)) (cases_Bool (p y)))
  where
    none : {b : Bool} → Earlier p (y ∷ ys) 0 → b ≡ true
    none e = let no = e.before in absurd (omega (arith, no))

    less : (i : ℕ) → p y ≡ false → Earlier p (y ∷ ys) (suc i) → Earlier p ys i
    less i n e = by e.found.position e.found.element e.found.stands e.found.passes e.before
      where
        by : (j : ℕ) (x : A) → slice_get (y ∷ ys) j ≡ Some x → p x ≡ true → j < suc i → Earlier p ys i
        by zero x at is lt = absurd (true≢false (sym is ∙ ap p (sym (same_Some y x at)) ∙ n))
        by (suc j) x at is lt = record { found = record { position = j; element = x; stands = at; passes = is }; before = omega (arith, lt) }

-- each element that passes p has one after it that passes q
pub followed_from : {A : Type 0} (p q : A → Bool) (xs : List A) → ((i : ℕ) (x : A) → slice_get xs i ≡ Some x → p x ≡ true → Later q xs i) → is_followed p q xs ≡ true
followed_from p q [] h = refl
followed_from {A} p q (y ∷ ys) h =
    and_from (not (p y) || list_any q ys) (is_followed p q ys)
    (⊎_elim (λ t. or_right (not (p y)) (list_any q ys) (found (h 0 y refl t))) (λ f. or_left (not (p y)) (list_any q ys) (ap not f)) (cases_Bool (p y)))
    (followed_from p q ys (λ i x at is. less i (h (suc i) x at is)))
  where
    less : (i : ℕ) → Later q (y ∷ ys) (suc i) → Later q ys i
    less i l = by l.found.position l.found.element l.found.stands l.found.passes l.after
      where
        by : (j : ℕ) (x : A) → slice_get (y ∷ ys) j ≡ Some x → q x ≡ true → suc i < j → Later q ys i
        by zero x at is lt = absurd (omega (arith, lt))
        by (suc j) x at is lt = record { found = record { position = j; element = x; stands = at; passes = is }; after = omega (arith, lt) }

    found : Later q (y ∷ ys) 0 → list_any q ys ≡ true
    found l = by l.found.position l.found.element l.found.stands l.found.passes l.after
      where
        by : (j : ℕ) (x : A) → slice_get (y ∷ ys) j ≡ Some x → q x ≡ true → 0 < j → list_any q ys ≡ true
        by zero x at is lt = absurd (omega (arith, lt))
        by (suc j) x at is lt = any_from q ys j x at is

-- ---- enclosed elements, and what comes after a first one

-- before an element that passes c, one has passed s and none f
pub enclosed_at : {A : Type 0} (s f c : A → Bool) (a b : Bool) (xs : List A) (m : ℕ) (x : A) → encloses s f c a b xs ≡ true → slice_get xs m ≡ Some x → c x ≡ true
    → ((a || list_any s (take m xs)) && not (b || list_any f (take m xs))) ≡ true
enclosed_at s f c a b [] m x h at is = absurd (none-some x at)
enclosed_at s f c a b (y ∷ ys) zero x h at is =
    let here = (and_parts (not (c y) || (a && not b)) (encloses s f c (a || s y) (b || f y) ys) h).0 in
    ap₂ (λ d e. d && not e) (or-false a) (or-false b) ∙ (sym (ap (λ d. not d || (a && not b)) (ap c (same_Some y x at) ∙ is)) ∙ here)
enclosed_at s f c a b (y ∷ ys) (suc m) x h at is =
    ap₂ (λ d e. d && not e) (sym (or_assoc a (s y) (list_any s (take m ys)))) (sym (or_assoc b (f y) (list_any f (take m ys))))
    ∙ enclosed_at s f c (a || s y) (b || f y) ys m x (and_parts (not (c y) || (a && not b)) (encloses s f c (a || s y) (b || f y) ys) h).1 at is

pub any_dropped : {A : Type 0} (g : A → Bool) (xs : List A) → list_any g (drop 1 xs) ≡ true → list_any g xs ≡ true
any_dropped g [] h = h
any_dropped g (x ∷ xs) h = or_right (g x) (list_any g xs) h

-- what passes g, after an element that passes q, isn't the first of those that pass q
pub past_first : {A : Type 0} (q g : A → Bool) → Only g q → (xs : List A) (i j : ℕ) (x y : A) → i < j → slice_get xs i ≡ Some x → slice_get xs j ≡ Some y
    → q x ≡ true → g y ≡ true → list_any g (drop 1 (filter q xs)) ≡ true
past_first q g only [] i j x y lt a b is then = absurd (none-some x a)
past_first q g only (z ∷ zs) i zero x y lt a b is then = let no : ⊥ = omega (arith, lt) in absurd no
past_first q g only (z ∷ zs) zero (suc j) x y lt a b is then =
    let here : q z ≡ true = ap q (same_Some z x a) ∙ is in
    rw here (sym (any_kept q g only zs) ∙ any_from g zs j y b then)
past_first q g only (z ∷ zs) (suc i) (suc j) x y lt a b is then =
    let more = past_first q g only zs i j x y (omega (arith, lt)) a b is then in
    elim (q z) as (λ t. list_any g (drop 1 (cond t (z ∷ filter q zs) (filter q zs))) ≡ true) [ true ↦ any_dropped g (filter q zs) more | false ↦ more ]

-- ---- first elements, and images

pub in_taken : {A : Type 0} (n : ℕ) (xs : List A) (i : ℕ) (x : A) → slice_get (take n xs) i ≡ Some x → (i < n) × (slice_get xs i ≡ Some x)
in_taken zero xs i x at = absurd (none-some x at)
in_taken (suc n) [] i x at = absurd (none-some x at)
in_taken (suc n) (y ∷ ys) zero x at = (omega arith, at)
in_taken (suc n) (y ∷ ys) (suc i) x at = let r = in_taken n ys i x at in let lt = r.0 in (omega (arith, lt), r.1)

pub taken_at : {A : Type 0} (n : ℕ) (xs : List A) (i : ℕ) (x : A) → i < n → slice_get xs i ≡ Some x → slice_get (take n xs) i ≡ Some x
taken_at zero xs i x lt at = let no : ⊥ = omega (arith, lt) in absurd no
taken_at (suc n) [] i x lt at = absurd (none-some x at)
taken_at (suc n) (y ∷ ys) zero x lt at = at
taken_at (suc n) (y ∷ ys) (suc i) x lt at = taken_at n ys i x (omega (arith, lt)) at

pub map_get : {A B : Type 0} (g : A → B) (xs : List A) (i : ℕ) (x : A) → slice_get xs i ≡ Some x → slice_get (map g xs) i ≡ Some (g x)
map_get g xs i x e = slice_get-map g xs i ∙ ap (option_map g) e

pub of_map : {A B : Type 0} (g : A → B) (xs : List A) (i : ℕ) (y : B) → slice_get (map g xs) i ≡ Some y → (x : A) × (slice_get xs i ≡ Some x) × (g x ≡ y)
of_map g [] i y at = absurd (none-some y at)
of_map g (x ∷ xs) zero y at = (x, refl, same_Some (g x) y at)
of_map g (x ∷ xs) (suc i) y at = of_map g xs i y at
