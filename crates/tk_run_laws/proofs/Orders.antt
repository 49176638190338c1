-- Orders of elements in a list, and in its part that matters.
use Rattle.std.proofs.Common.{◌≡◌, Bool, true, false, not, cond, ◌&&◌, ◌||◌, List, [], ◌∷◌, filter, refl, sym, ap, ap₂, ◌∙◌, ⊎_elim}
use Rattle.std.specs.List.{list_any}
use Rattle.std.proofs.lemmas.Bool.{cases_Bool, or_left, true≢false}
use Rattle.tk_base.proofs.Truth.{or-false}
use Rattle.tk_run_laws.specs.Listening.{precedes}

-- a test that passes only where another does
abbrev pub Only : {A : Type 0} → (A → Bool) → (A → Bool) → Type 0
Only {A} p q = (x : A) → p x ≡ true → q x ≡ true

module _ {A : Type 0} (q : A → Bool) where
  out_of : (p : A → Bool) → Only p q → (x : A) → q x ≡ false → p x ≡ false
  out_of p only x e = ⊎_elim (λ t. let bad : true ≡ false = sym (only x t) ∙ e in cc) (λ f. f) (cases_Bool (p x))

  pub any_kept : (p : A → Bool) → Only p q → (xs : List A) → list_any p xs ≡ list_any p (filter q xs)
  any_kept p only [] = refl
  any_kept p only (x ∷ xs) =
      let h = any_kept p only xs in
      ⊎_elim
      (λ t. rw t (ap (λ b. p x || b) h))
      (λ f. rw f (ap (λ b. b || list_any p xs) (out_of p only x f) ∙ h))
      (cases_Bool (q x))

  pub filter_kept : (p : A → Bool) → Only p q → (xs : List A) → filter p xs ≡ filter p (filter q xs)
  filter_kept p only [] = refl
  filter_kept p only (x ∷ xs) =
      let h = filter_kept p only xs in
      ⊎_elim
      (λ t. rw t (ap (λ l. cond (p x) (x ∷ l) l) h))
      (λ f. rw f (ap (λ b. cond b (x ∷ filter p xs) (filter p xs)) (out_of p only x f) ∙ h))
      (cases_Bool (q x))

-- none of the elements passes
pub none_passes : {A : Type 0} (p : A → Bool) (xs : List A) → list_any p xs ≡ false → filter p xs ≡ []
none_passes p [] h = refl
none_passes p (x ∷ xs) h = ⊎_elim
    (λ t. absurd (true≢false (sym (or_left (p x) (list_any p xs) t) ∙ h)))
    (λ f. rw f (none_passes p xs (sym (ap (λ b. b || list_any p xs) f) ∙ h)))
    (cases_Bool (p x))

-- where one comes that has to be preceded, one has come that precedes
pub preceded : {A : Type 0} (e l : A → Bool) (xs : List A) → precedes e l xs ≡ true → list_any l xs ≡ true → list_any e xs ≡ true
preceded e l [] h a = a
preceded e l (x ∷ xs) h a =
    let more = preceded e l xs in
    elim (l x) as (λ b. (not b && (e x || precedes e l xs)) ≡ true → (b || list_any l xs) ≡ true → (e x || list_any e xs) ≡ true) [
      | true ↦ (λ k m. cc)
      | false ↦ elim (e x) as (λ c. (c || precedes e l xs) ≡ true → list_any l xs ≡ true → (c || list_any e xs) ≡ true) [ true ↦ (λ k m. refl) | false ↦ (λ k m. more k m) ]
    ] h a

module _ {A : Type 0} (s f c : A → Bool) where
  -- each element that passes c comes after one that passes s, and after none that passes f; such ones have come before, where the first argument is true, or the second
  abbrev pub encloses : Bool → Bool → List A → Bool
  encloses begun ended [] = true
  encloses begun ended (x ∷ xs) = (not (c x) || (begun && not ended)) && encloses (begun || s x) (ended || f x) xs

  outside : (a b : Bool) (x : A) (xs : List A) → s x ≡ false → f x ≡ false → c x ≡ false → encloses a b (x ∷ xs) ≡ encloses a b xs
  outside a b x xs h g k =
      ap (λ d. (not d || (a && not b)) && encloses (a || s x) (b || f x) xs) k
      ∙ (ap₂ (λ d e. encloses (a || d) (b || e) xs) h g ∙ ap₂ (λ d e. encloses d e xs) (or-false a) (or-false b))

  pub encloses_kept : (q : A → Bool) → Only s q → Only f q → Only c q → (a b : Bool) (xs : List A) → encloses a b xs ≡ encloses a b (filter q xs)
  encloses_kept q os of oc a b [] = refl
  encloses_kept q os of oc a b (x ∷ xs) = ⊎_elim
      (λ t. rw t (ap (λ r. (not (c x) || (a && not b)) && r) (encloses_kept q os of oc (a || s x) (b || f x) xs)))
      (λ n. rw n (outside a b x xs (out_of q s os x n) (out_of q f of x n) (out_of q c oc x n) ∙ encloses_kept q os of oc a b xs))
      (cases_Bool (q x))
