-- The elements of a list, one by one, and of what is lacking.
use Rattle.std.proofs.Common.{◌≡◌, zero, suc, Bool, true, not, List, [], ◌∷◌, sym, ap, ◌∙◌, arith, ◌⊎◌, inl, inr}
use Rattle.std.specs.List.{Contains, filter}
use Rattle.std.proofs.lemmas.Bool.{cond_both, not-true, true≢false}
use Rattle.tk_query.specs.Holds.{cond_holds}
use Rattle.tk_query_nearest.specs.Laws.{LackingIsExact}
use Rattle.tk_query_nearest.specs.Members.{members}

pub after_head : {X : Type 0} (x : X) (xs : List X) (z : X) → Contains xs z → Contains (x ∷ xs) z
after_head x xs z has = let lt = has.1 in (suc has.0, omega arith, has.2)

pub head_or_rest : {X : Type 0} (x : X) (xs : List X) (z : X) → Contains (x ∷ xs) z → (x ≡ z) ⊎ Contains xs z
head_or_rest x xs z (zero, lt, e) = inl e
head_or_rest x xs z (suc k, lt, e) = inr (k, omega arith, e)

pub none_in : {X : Type 0} (z : X) → Contains [] z → ⊥
none_in z h = let lt = h.1 in omega arith

module _ {X : Type 0} (p : X → Bool) where
  pub filtered : (xs : List X) (z : X) → Contains (filter p xs) z → Contains xs z × (p z ≡ true)
  filtered [] z = λ h. absurd (none_in z h)
  filtered (x ∷ xs) z =
      let rest : Contains (filter p xs) z → Contains (x ∷ xs) z × (p z ≡ true) =
      λ h. let kept = filtered xs z h in (after_head x xs z kept.0, kept.1) in
      cond_both (p x) (x ∷ filter p xs) (filter p xs) (λ l. Contains l z → Contains (x ∷ xs) z × (p z ≡ true))
      (λ e h. elim (head_or_rest x (filter p xs) z h) [ inl here ↦ ((0, omega arith, here), ap p (sym here) ∙ e) | inr later ↦ rest later ])
      (λ e h. rest h)

  pub in_filter : (xs : List X) (z : X) → p z ≡ true → Contains xs z → Contains (filter p xs) z
  in_filter [] z e h = absurd (none_in z h)
  in_filter (x ∷ xs) z e h = cond_both (p x) (x ∷ filter p xs) (filter p xs) (λ l. Contains l z)
      (λ kept. elim (head_or_rest x xs z h) [ inl here ↦ (0, omega arith, here) | inr later ↦ after_head x (filter p xs) z (in_filter xs z e later) ])
      (λ left. elim (head_or_rest x xs z h) [ inl here ↦ absurd (true≢false (sym (ap p here ∙ e) ∙ left)) | inr later ↦ in_filter xs z e later ])

pub lacking_exact : LackingIsExact
lacking_exact r c e m = (
  (λ h. let kept = filtered (λ n. not (cond_holds r n e)) (members c) m h in (kept.0, not-true (cond_holds r m e) kept.1)),
  (λ h. in_filter (λ n. not (cond_holds r n e)) (members c) m (ap not h.1) h.0),
)
