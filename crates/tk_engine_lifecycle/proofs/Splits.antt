-- Lists in parts.
use Rattle.std.proofs.Common.{◌≡◌, ℕ, zero, suc, ◌⊎◌, inl, inr, ⊎_elim, Bool, true, false, cond, List, [], ◌∷◌, ◌++◌, length, flat_map, filter, take, Some, slice_get, refl, sym, ap, ap₂, ◌∙◌, append_assoc}

-- the first of two lists, or the second, has the element
pub record InFirst {A : Type 0} (p : List A) (x : A) (q a b : List A) : Type 0 where
  pub rest : List A
  pub is : a ≡ p ++ x ∷ rest
  pub more : q ≡ rest ++ b

pub record InSecond {A : Type 0} (p : List A) (x : A) (q a b : List A) : Type 0 where
  pub start : List A
  pub is : p ≡ a ++ start
  pub more : b ≡ start ++ x ∷ q

pub head_is : {A : Type 0} {x y : A} {xs ys : List A} → x ∷ xs ≡ y ∷ ys → x ≡ y
head_is e = cc

pub tail_is : {A : Type 0} {x y : A} {xs ys : List A} → x ∷ xs ≡ y ∷ ys → xs ≡ ys
tail_is e = cc

pub in_parts : {A : Type 0} (p : List A) (x : A) (q a b : List A) → a ++ b ≡ p ++ x ∷ q → InFirst p x q a b ⊎ InSecond p x q a b
in_parts p x q [] b e = inr (record { start = p; is = refl; more = e })
in_parts [] x q (y ∷ a) b e = inl (record { rest = a; is = ap (λ z. z ∷ a) (head_is e); more = sym (tail_is e) })
in_parts (z ∷ p) x q (y ∷ a) b e =
    ⊎_elim
    (λ (f : InFirst p x q a b). inl (record { rest = f.rest; is = ap₂ (λ h t. h ∷ t) (head_is e) f.is; more = f.more }))
    (λ (s : InSecond p x q a b). inr (record { start = s.start; is = ap₂ (λ h t. h ∷ t) (sym (head_is e)) s.is; more = s.more }))
    (in_parts p x q a b (tail_is e))

-- an element at a position stands between what is before and what is after
pub get_split : {A : Type 0} (xs : List A) (p : ℕ) (x : A) → slice_get xs p ≡ Some x → (q : List A) × (xs ≡ take p xs ++ x ∷ q)
get_split [] p x e = cc
get_split (y ∷ ys) zero x e = let same : y ≡ x = cc in (ys, ap (λ z. z ∷ ys) same)
get_split (y ∷ ys) (suc p) x e = let more = get_split ys p x e in (more.0, ap (λ l. y ∷ l) more.1)

pub split_get : {A : Type 0} (p : List A) (x : A) (q : List A) → slice_get (p ++ x ∷ q) (length p) ≡ Some x
split_get [] x q = refl
split_get (y ∷ p) x q = split_get p x q

pub split_take : {A : Type 0} (p : List A) (x : A) (q : List A) → take (length p) (p ++ x ∷ q) ≡ p
split_take [] x q = refl
split_take (y ∷ p) x q = ap (λ l. y ∷ l) (split_take p x q)

-- an element that a filter keeps, in the list that was filtered
pub record Unfiltered {A : Type 0} (test : A → Bool) (xs p : List A) (x : A) (q : List A) : Type 0 where
  pub prefix : List A
  pub suffix : List A
  pub is : xs ≡ prefix ++ x ∷ suffix
  pub passes : test x ≡ true
  pub kept : filter test prefix ≡ p
  pub rest : filter test suffix ≡ q

unfiltered_step : {A : Type 0} (b : Bool) (test : A → Bool) (y : A) (ys p : List A) (x : A) (q : List A) → test y ≡ b
    → ((p' : List A) → filter test ys ≡ p' ++ x ∷ q → Unfiltered test ys p' x q)
    → cond b (y ∷ filter test ys) (filter test ys) ≡ p ++ x ∷ q → Unfiltered test (y ∷ ys) p x q
unfiltered_step true test y ys [] x q is more e =
    record { prefix = []; suffix = ys; is = ap (λ z. z ∷ ys) (head_is e); passes = ap test (sym (head_is e)) ∙ is; kept = refl; rest = tail_is e }
unfiltered_step true test y ys (z ∷ p) x q is more e =
    let u = more p (tail_is e) in
    record {
      prefix = y ∷ u.prefix;
      suffix = u.suffix;
      is = ap (λ l. y ∷ l) u.is;
      passes = u.passes;
      kept = ap (λ b. cond b (y ∷ filter test u.prefix) (filter test u.prefix)) is ∙ ap₂ (λ h t. h ∷ t) (head_is e) u.kept;
      rest = u.rest;
    }
unfiltered_step false test y ys p x q is more e =
    let u = more p e in
    record {
      prefix = y ∷ u.prefix;
      suffix = u.suffix;
      is = ap (λ l. y ∷ l) u.is;
      passes = u.passes;
      kept = ap (λ b. cond b (y ∷ filter test u.prefix) (filter test u.prefix)) is ∙ u.kept;
      rest = u.rest;
    }

pub unfiltered : {A : Type 0} (test : A → Bool) (xs p : List A) (x : A) (q : List A) → filter test xs ≡ p ++ x ∷ q → Unfiltered test xs p x q
unfiltered test [] [] x q e = cc
unfiltered test [] (z ∷ p) x q e = cc
unfiltered test (y ∷ ys) p x q e = unfiltered_step (test y) test y ys p x q refl (λ p' e'. unfiltered test ys p' x q e') e

-- a list is empty, or has a first element
pub nil_or_cons : {A : Type 0} (xs : List A) → (xs ≡ []) ⊎ ((x : A) × (q : List A) × (xs ≡ x ∷ q))
nil_or_cons [] = inl refl
nil_or_cons (x ∷ q) = inr (x, q, refl)

-- one of the elements that gives something
pub record Gives {A B : Type 0} (f : A → List B) (xs : List A) : Type 0 where
  pub prefix : List A
  pub one : A
  pub suffix : List A
  pub is : xs ≡ prefix ++ one ∷ suffix
  pub first : B
  pub rest : List B
  pub given : f one ≡ first ∷ rest

pub none_or_one : {A B : Type 0} (f : A → List B) (xs : List A) → (flat_map f xs ≡ []) ⊎ Gives f xs
none_or_one f [] = inl refl
none_or_one f (x ∷ xs) =
    ⊎_elim
    (λ n. ⊎_elim
    (λ m. inl (ap₂ (λ a b. a ++ b) n m))
    (λ (g : Gives f xs). inr (record { prefix = x ∷ g.prefix; one = g.one; suffix = g.suffix; is = ap (λ l. x ∷ l) g.is; first = g.first; rest = g.rest; given = g.given }))
    (none_or_one f xs))
    (λ c. inr (record { prefix = []; one = x; suffix = xs; is = refl; first = c.0; rest = c.1; given = c.2 }))
    (nil_or_cons (f x))

-- the element of a joined list, in the list that it comes from
pub record Joined {A B : Type 0} (f : A → List B) (xs : List A) (p : List B) (x : B) (q : List B) : Type 0 where
  pub prefix : List A
  pub one : A
  pub suffix : List A
  pub is : xs ≡ prefix ++ one ∷ suffix
  pub before : List B
  pub after : List B
  pub within : f one ≡ before ++ x ∷ after
  pub first : p ≡ flat_map f prefix ++ before
  pub last : q ≡ after ++ flat_map f suffix

pub joined : {A B : Type 0} (f : A → List B) (xs : List A) (p : List B) (x : B) (q : List B) → flat_map f xs ≡ p ++ x ∷ q → Joined f xs p x q
joined f [] [] x q e = cc
joined f [] (z ∷ p) x q e = cc
joined f (y ∷ ys) p x q e =
    ⊎_elim
    (λ (a : InFirst p x q (f y) (flat_map f ys)). record { prefix = []; one = y; suffix = ys; is = refl; before = p; after = a.rest; within = a.is; first = refl; last = a.more })
    (λ (b : InSecond p x q (f y) (flat_map f ys)).
    let j = joined f ys b.start x q b.more in
    record {
      prefix = y ∷ j.prefix;
      one = j.one;
      suffix = j.suffix;
      is = ap (λ l. y ∷ l) j.is;
      before = j.before;
      after = j.after;
      within = j.within;
      first = b.is ∙ ap (λ l. f y ++ l) j.first ∙ sym (append_assoc (f y) (flat_map f j.prefix) j.before);
      last = j.last;
    })
    (in_parts p x q (f y) (flat_map f ys) e)
