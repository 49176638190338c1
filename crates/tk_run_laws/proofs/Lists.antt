-- What holds of each element of a list, how many pass a test, and lists of lists of which all but one are empty.
use Rattle.std.proofs.Common.{◌≡◌, ◌≢◌, ◌≤◌, ◌<◌, ℕ, zero, suc, ◌+◌, ◌⊎◌, List, [], ◌∷◌, ◌++◌, flat_map, Option, Some, None, slice_get, refl, sym, ap, ap₂, ◌∙◌, arith, append_assoc, append-nil, inl, inr, ⊎_elim, ◌==◌, tests, subst, Bool, true, false, if◌then◌else◌}
use Rattle.std.proofs.lemmas.Bool.{cases_Bool}
use Rattle.tk_base.proofs.Lists.{nil_left, nil_right}

abbrev pub Each : {A : Type 0} → (A → Type 0) → List A → Type 0
Each P [] = Unit {0}
Each P (x ∷ xs) = P x × Each P xs

pub each_at : {A : Type 0} (P : A → Type 0) (xs : List A) (i : ℕ) (x : A) → Each P xs → slice_get xs i ≡ Some x → P x
each_at P [] i x h e = cc
each_at P (y ∷ ys) zero x h e = let same : y ≡ x = cc in subst P same h.0
each_at P (y ∷ ys) (suc i) x h e = each_at P ys i x h.1 e

pub each_from : {A : Type 0} (P : A → Type 0) (xs : List A) → ((i : ℕ) (x : A) → slice_get xs i ≡ Some x → P x) → Each P xs
each_from P [] h = tt
each_from P (x ∷ xs) h = (h 0 x refl, each_from P xs (λ i y e. h (suc i) y e))

pub each-append : {A : Type 0} (P : A → Type 0) (xs ys : List A) → Each P xs → Each P ys → Each P (xs ++ ys)
each-append P [] ys h g = g
each-append P (x ∷ xs) ys h g = (h.0, each-append P xs ys h.1 g)

pub each_weaker : {A : Type 0} (P Q : A → Type 0) → ((x : A) → P x → Q x) → (xs : List A) → Each P xs → Each Q xs
each_weaker P Q f [] h = tt
each_weaker P Q f (x ∷ xs) h = (f x h.0, each_weaker P Q f xs h.1)

pub each_split : {A : Type 0} (P : A → Type 0) (xs ys : List A) → Each P (xs ++ ys) → Each P xs × Each P ys
each_split P [] ys h = (tt, h)
each_split P (x ∷ xs) ys h = let e = each_split P xs ys h.1 in ((h.0, e.0), e.1)

-- ---- how many pass the test

abbrev pub count : {A : Type 0} → (A → Bool) → List A → ℕ
count p [] = 0
count p (x ∷ xs) = if p x then 1 + count p xs else count p xs

pub count-append : {A : Type 0} (p : A → Bool) (xs ys : List A) → count p (xs ++ ys) ≡ count p xs + count p ys
count-append p [] ys = omega arith
count-append p (x ∷ xs) ys = let h = count-append p xs ys in
    elim (p x) as (λ b. (if b then 1 + count p (xs ++ ys) else count p (xs ++ ys)) ≡ (if b then 1 + count p xs else count p xs) + count p ys)
    [ true ↦ omega (arith, h) | false ↦ h ]

pub not_none : (b : Bool) (n : ℕ) → b ≡ true → (if b then 1 + n else n) ≡ 0 → ⊥
not_none true n e h = omega (arith, h)
not_none false n e h = cc

pub none_tail : (b : Bool) (n : ℕ) → (if b then 1 + n else n) ≡ 0 → n ≡ 0
none_tail true n h = let no : ⊥ = omega (arith, h) in absurd no
none_tail false n h = h

pub none_left : (b : Bool) (n : ℕ) → b ≡ true → (if b then 1 + n else n) ≤ 1 → n ≡ 0
none_left true n e h = omega (arith, h)
none_left false n e h = cc

pub at_most_tail : (b : Bool) (n : ℕ) → (if b then 1 + n else n) ≤ 1 → n ≤ 1
at_most_tail true n h = omega (arith, h)
at_most_tail false n h = h

-- ---- at most one

-- each list that g gives is empty; all but one at most are
abbrev pub AllNil : {A B : Type 0} → (A → List B) → List A → Type 0
AllNil g xs = Each (λ x. g x ≡ []) xs

abbrev pub AtMostOne : {A B : Type 0} → (A → List B) → List A → Type 0
AtMostOne g [] = Unit {0}
AtMostOne g (x ∷ xs) = ((g x ≡ []) × AtMostOne g xs) ⊎ AllNil g xs

pub all_nil : {A B : Type 0} (g : A → List B) (xs : List A) → flat_map g xs ≡ [] → AllNil g xs
all_nil g [] e = tt
all_nil g (x ∷ xs) e = (nil_left (g x) _ e, all_nil g xs (nil_right (g x) _ e))

pub nil_of_all : {A B : Type 0} (g : A → List B) (xs : List A) → AllNil g xs → flat_map g xs ≡ []
nil_of_all g [] h = refl
nil_of_all g (x ∷ xs) h = ap₂ (λ a b. a ++ b) h.0 (nil_of_all g xs h.1)

pub one_of_nil : {A B : Type 0} (g : A → List B) (xs : List A) → AllNil g xs → AtMostOne g xs
one_of_nil g [] h = tt
one_of_nil g (x ∷ xs) h = inr h.1

pub one_after : {A B : Type 0} (g : A → List B) (xs ys : List A) → AllNil g xs → AtMostOne g ys → AtMostOne g (xs ++ ys)
one_after g [] ys h o = o
one_after g (x ∷ xs) ys h o = inl (h.0, one_after g xs ys h.1 o)

pub one_before : {A B : Type 0} (g : A → List B) (xs ys : List A) → AtMostOne g xs → AllNil g ys → AtMostOne g (xs ++ ys)
one_before g [] ys o h = one_of_nil g ys h
one_before g (x ∷ xs) ys (inl o) h = inl (o.0, one_before g xs ys o.1 h)
one_before g (x ∷ xs) ys (inr o) h = inr (each-append (λ y. g y ≡ []) xs ys o h)

-- all but the one at place k give nothing
pub record IsLone {A B : Type 0} (g : A → List B) (xs : List A) : Type 0 where
  pub position : ℕ
  pub others : (i : ℕ) (x : A) → slice_get xs i ≡ Some x → i ≢ position → g x ≡ []

later : {A B : Type 0} (g : A → List B) (x : A) (xs : List A) (k : ℕ) → g x ≡ [] → ((i : ℕ) (y : A) → slice_get xs i ≡ Some y → i ≢ k → g y ≡ [])
    → (i : ℕ) (y : A) → slice_get (x ∷ xs) i ≡ Some y → i ≢ suc k → g y ≡ []
later g x xs k e h zero y s n = let same : x ≡ y = cc in subst (λ z. g z ≡ []) same e
later g x xs k e h (suc i) y s n = h i y s (λ same. n (ap suc same))

first : {A B : Type 0} (g : A → List B) (x : A) (xs : List A) → AllNil g xs → (i : ℕ) (y : A) → slice_get (x ∷ xs) i ≡ Some y → i ≢ 0 → g y ≡ []
first g x xs h zero y s n = absurd (n refl)
first g x xs h (suc i) y s n = each_at (λ z. g z ≡ []) xs i y h s

pub lone : {A B : Type 0} (g : A → List B) (xs : List A) → AtMostOne g xs → IsLone g xs
lone g [] o = record { position = 0; others = λ i x e n. cc }
lone g (x ∷ xs) (inl o) = let h = lone g xs o.1 in record { position = suc h.position; others = later g x xs h.position o.0 h.others }
lone g (x ∷ xs) (inr o) = record { position = 0; others = first g x xs o }

-- what stands at the place, if anything does
abbrev pub at : {A B : Type 0} → (A → List B) → Option A → List B
at g None = []
at g (Some x) = g x

-- all lists in turn are the one at the place
pub lone_is : {A B : Type 0} (g : A → List B) (xs : List A) (k : ℕ) → ((i : ℕ) (x : A) → slice_get xs i ≡ Some x → i ≢ k → g x ≡ [])
    → flat_map g xs ≡ at g (slice_get xs k)
lone_is g [] k h = refl
lone_is g (x ∷ xs) zero h =
    ap (λ l. g x ++ l) (nil_of_all g xs (each_from (λ y. g y ≡ []) xs (λ i y e. h (suc i) y e (λ no. let bad : ⊥ = omega (arith, no) in bad)))) ∙ append-nil (g x)
lone_is g (x ∷ xs) (suc k) h =
    ap (λ l. l ++ flat_map g xs) (h 0 x refl (λ no. let bad : ⊥ = omega (arith, no) in bad))
    ∙ lone_is g xs k (λ i y e n. h (suc i) y e (λ same. n (let p : i ≡ k = omega (arith, same) in p)))

-- ---- lists by numbers that were drawn

-- how often u stands in the list, and in the lists together
abbrev pub times : ℕ → List ℕ → ℕ
times u [] = 0
times u (x ∷ xs) = if x == u then 1 + times u xs else times u xs

abbrev pub times_in : ℕ → List (List ℕ) → ℕ
times_in u [] = 0
times_in u (l ∷ ls) = times u l + times_in u ls

abbrev pub copies : {B : Type 0} → ℕ → List B → List B
copies zero l = []
copies (suc n) l = l ++ copies n l

pub copies_by : {B : Type 0} (m n : ℕ) (l : List B) → m ≡ n → copies m l ≡ copies n l
copies_by m n l e = ap (λ k. copies k l) e

-- a list of numbers gives what one of them gives, as often as it stands there
pub drawn_is : {B : Type 0} (g : ℕ → List B) (u : ℕ) (us : List ℕ) → ((v : ℕ) → v ≢ u → g v ≡ []) → flat_map g us ≡ copies (times u us) (g u)
drawn_is g u [] h = refl
drawn_is g u (v ∷ us) h =
    let more = drawn_is g u us h in
    ⊎_elim
    (λ e. let same : v ≡ u = grind (arith, tests, e) in
    rw e (ap₂ (λ a b. a ++ b) (ap g same) more ∙ sym (copies_by (1 + times u us) (suc (times u us)) (g u) (omega arith))))
    (λ e. let differ : v ≢ u = grind (arith, tests, e) in rw e (ap (λ a. a ++ flat_map g us) (h v differ) ∙ more))
    (cases_Bool (v == u))

copies-append : {B : Type 0} (m n : ℕ) (l : List B) → copies (m + n) l ≡ copies m l ++ copies n l
copies-append zero n l = copies_by (0 + n) n l (omega arith)
copies-append (suc m) n l =
    copies_by (suc m + n) (suc (m + n)) l (omega arith) ∙ (ap (λ k. l ++ k) (copies-append m n l) ∙ sym (append_assoc l (copies m l) (copies n l)))

pub zero_or : (n : ℕ) → (n ≡ 0) ⊎ (0 < n)
zero_or zero = inl refl
zero_or (suc n) = inr (omega arith)

module _ {B : Type 0} (g : ℕ → List B) (u : ℕ) (nothing : (v : ℕ) → v ≢ u → g v ≡ []) where
  abbrev pub list_gives : List ℕ → List B
  list_gives us = flat_map g us

  -- lists of numbers give together what one of them gives, as often as it stands in them
  pub all_drawn : (lists : List (List ℕ)) → flat_map list_gives lists ≡ copies (times_in u lists) (g u)
  all_drawn [] = refl
  all_drawn (l ∷ ls) = ap₂ (λ a b. a ++ b) (drawn_is g u l nothing) (all_drawn ls) ∙ sym (copies-append (times u l) (times_in u ls) (g u))

  none_drawn : (lists : List (List ℕ)) → times_in u lists ≡ 0 → AllNil list_gives lists
  none_drawn [] e = tt
  none_drawn (l ∷ ls) e = (drawn_is g u l nothing ∙ copies_by (times u l) 0 (g u) (omega (arith, e)), none_drawn ls (omega (arith, e)))

  -- where it stands at most once in them, one of them at most gives something
  pub one_drawn : (lists : List (List ℕ)) → times_in u lists ≤ 1 → AtMostOne list_gives lists
  one_drawn [] h = tt
  one_drawn (l ∷ ls) h = ⊎_elim
      (λ e. inl (drawn_is g u l nothing ∙ copies_by (times u l) 0 (g u) e, one_drawn ls (omega (arith, h))))
      (λ e. inr (none_drawn ls (omega (arith, h, e))))
      (zero_or (times u l))
