-- Lists of starts, and numbers of locks.
use Rattle.std.proofs.Common.{◌≡◌, ℕ, zero, suc, ◌<◌, ⊎_elim, Bool, true, false, cond, List, [], ◌∷◌, get_or, length, set, refl, sym, ap, ◌∙◌, subst, arith}
use Rattle.std.specs.List.{Contains, filter}
use Rattle.std.proofs.lemmas.Bool.{cases_eq, true≢false}
use Rattle.std.proofs.lemmas.List.{get_or-set_same, get_or-set_other}

-- one element more, in front
later : (x : ℕ) (xs : List ℕ) (p : ℕ) → Contains xs p → Contains (x ∷ xs) p
later x xs p has = let lt = has.1 in (suc has.0, omega arith, has.2)

-- what passes the test stays
pub stays : (test : ℕ → Bool) (xs : List ℕ) (p : ℕ) → test p ≡ true → Contains xs p → Contains (filter test xs) p
stays test [] p is (k, lt, e) = absurd (omega arith)
stays test (x ∷ xs) p is (zero, lt, e) = by (test x) refl
  where
    by : (b : Bool) → test x ≡ b → Contains (cond b (x ∷ filter test xs) (filter test xs)) p
    by true same = (0, omega arith, e)
    by false other = absurd (true≢false (sym is ∙ ap test (sym e) ∙ other))
stays test (x ∷ xs) p is (suc k, lt, e) = by (test x) (stays test xs p is (k, omega arith, e))
  where
    by : (b : Bool) → Contains (filter test xs) p → Contains (cond b (x ∷ filter test xs) (filter test xs)) p
    by true has = later x (filter test xs) p has
    by false has = has

-- one of the lists changed, and keeps these starts
pub list_changed : (lists : List (List ℕ)) (number : ℕ) (new : List ℕ) (P : ℕ → Type 0) → number < length lists →
    ((p : ℕ) → P p → Contains (get_or lists number []) p → Contains new p) →
    (n p : ℕ) → P p → Contains (get_or lists n []) p → Contains (get_or (set lists number new) n []) p
list_changed lists number new P within kept n p is has = ⊎_elim {C = Contains (get_or (set lists number new) n []) p}
    (λ (same : n ≡ number).
    subst (λ l. Contains l p) (sym (ap (λ k. get_or (set lists number new) k []) same ∙ get_or-set_same lists number new [] within))
    (kept p is (subst (λ k. Contains (get_or lists k []) p) same has)))
    (λ (other : n ≡ number → ⊥). subst (λ l. Contains l p) (sym (get_or-set_other lists number n new [] other)) has)
    (cases_eq n number)
