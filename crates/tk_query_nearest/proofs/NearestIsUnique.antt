-- The same events and the same condition have one list of nearest events.
use Rattle.std.proofs.Common.{◌≡◌, ℕ, zero, suc, ◌<◌, ◌≤◌, ◌⊎◌, List, [], ◌∷◌, length, refl, sym, ap, ◌∙◌, subst, arith, inl, inr}
use Rattle.std.specs.List.{All, AllPairs, Contains}
use Rattle.std.proofs.lemmas.Bool.{cases_eq}
use Rattle.tk_query_nearest.specs.Nearness.{IsAskedFrom, IsNearest, distance_at}
use Rattle.tk_query_nearest.specs.Laws.{NearestIsUnique}
use Rattle.tk_query_nearest.proofs.ElementLemmas.{after_head, head_or_rest, none_in}
use Rattle.tk_query_nearest.proofs.RankLemmas.{Near, near_not}

-- whether a number is an element
contains_cases : (ps : List ℕ) (x : ℕ) → Contains ps x ⊎ (Contains ps x → ⊥)
contains_cases [] x = inr (none_in x)
contains_cases (p ∷ ps) x = elim (cases_eq p x) [
  | inl here ↦ inl (0, omega arith, here)
  | inr other ↦ elim (contains_cases ps x) [
    | inl later ↦ inl (after_head p ps x later)
    | inr none ↦ inr (λ h. elim (head_or_rest p ps x h) [ inl e ↦ other e | inr later ↦ none later ])
  ]
]

module _ (d : ℕ → ℕ) where
  -- the n nearest of the positions of S, or all if there are fewer
  record AreChosen (S : ℕ → Type 0) (n : ℕ) (ps : List ℕ) : Type 0 where
    each : All S ps
    order : AllPairs (Near d) ps
    others : (q : ℕ) → S q → (Contains ps q → ⊥) → All (λ p. Near d p q) ps
    at_most : length ps ≤ n
    all_if_fewer : length ps < n → (q : ℕ) → S q → Contains ps q

  head_before : (p : ℕ) (ps : List ℕ) → AllPairs (Near d) (p ∷ ps) → (x : ℕ) → Contains ps x → Near d p x
  head_before p ps order x has =
      let lt = has.1 in
      subst (Near d p) has.2 (order 0 (suc has.0) x (omega arith) (omega arith))

  -- the first is the nearest of all
  head_least : (S : ℕ → Type 0) (n p : ℕ) (ps : List ℕ) → AreChosen S n (p ∷ ps) → (x : ℕ) → S x → (p ≡ x) ⊎ Near d p x
  head_least S n p ps chosen x s = elim (contains_cases (p ∷ ps) x) [
    | inl has ↦ elim (head_or_rest p ps x has) [ inl e ↦ inl e | inr later ↦ inr (head_before p ps chosen.order x later) ]
    | inr not_in ↦ inr (chosen.others x s not_in 0 x (omega arith))
  ]

  -- without the first one, the nearest of the others
  abbrev Other : (ℕ → Type 0) → ℕ → ℕ → Type 0
  Other S p x = S x × (p ≡ x → ⊥)

  rest_chosen : (S : ℕ → Type 0) (n p : ℕ) (ps : List ℕ) → AreChosen S (suc n) (p ∷ ps) → AreChosen (Other S p) n ps
  rest_chosen S n p ps chosen =
      let many = chosen.at_most in
      record {
        each = λ k x lt. (chosen.each (suc k) x (omega arith), λ e. let before : Near d p p = subst (Near d p) (sym e) (chosen.order 0 (suc k) x (omega arith) (omega arith)) in near_not d p p before before);
        order = λ i j x lt within. chosen.order (suc i) (suc j) x (omega arith) (omega arith);
        others = λ q s not_in k x within. chosen.others q s.0 (λ has. elim (head_or_rest p ps q has) [ inl e ↦ s.1 e | inr later ↦ not_in later ]) (suc k) x (omega arith);
        at_most = omega arith;
        all_if_fewer = λ fewer q s. elim (head_or_rest p ps q (chosen.all_if_fewer (omega arith) q s.0)) [ inl e ↦ absurd (s.1 e) | inr later ↦ later ];
      }

  one_head : (p q : ℕ) → (p ≡ q) ⊎ Near d p q → (q ≡ p) ⊎ Near d q p → p ≡ q
  one_head p q (inl e) second = e
  one_head p q (inr first) (inl e) = sym e
  one_head p q (inr first) (inr second) = absurd (near_not d p q first second)

  one_choice : (S : ℕ → Type 0) (n : ℕ) (ps qs : List ℕ) → AreChosen S n ps → AreChosen S n qs → ps ≡ qs
  one_choice S n [] [] a b = refl
  one_choice S zero ps (q ∷ qs) a b = let many = b.at_most in absurd (omega arith)
  one_choice S zero (p ∷ ps) [] a b = let many = a.at_most in absurd (omega arith)
  one_choice S (suc n) [] (q ∷ qs) a b = absurd (none_in q (a.all_if_fewer (omega arith) q (b.each 0 q (omega arith))))
  one_choice S (suc n) (p ∷ ps) [] a b = absurd (none_in p (b.all_if_fewer (omega arith) p (a.each 0 p (omega arith))))
  one_choice S (suc n) (p ∷ ps) (q ∷ qs) a b =
      let same = one_head p q (head_least S (suc n) p ps a q (b.each 0 q (omega arith))) (head_least S (suc n) q qs b p (a.each 0 p (omega arith))) in
      ap (λ x. x ∷ ps) same
      ∙ ap (λ xs. q ∷ xs) (one_choice (Other S p) n ps qs (rest_chosen S n p ps a) (subst (λ x. AreChosen (Other S x) n qs) (sym same) (rest_chosen S n q qs b)))

pub one_nearest : NearestIsUnique
one_nearest asked first c ps qs a b = one_choice (distance_at asked c) (IsAskedFrom asked first) 3 ps qs (chosen ps a) (chosen qs b)
  where
    chosen : (xs : List ℕ) → IsNearest asked first c xs → AreChosen (distance_at asked c) (IsAskedFrom asked first) 3 xs
    chosen xs h = record {
      each = h.asked_from;
      order = h.order;
      others = h.others;
      at_most = h.at_most;
      all_if_fewer = h.all_if_fewer;
    }
