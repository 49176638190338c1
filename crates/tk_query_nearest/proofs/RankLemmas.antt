-- Positions in the order of their nearness. `d` says how far the event at a position is.
use Rattle.std.proofs.Common.{◌≡◌, ℕ, zero, suc, ◌<◌, ◌≤◌, ◌⊎◌, List, [], ◌∷◌, length, take, refl, ap, subst, arith, inl, inr}
use Rattle.std.specs.Prelude.{nat_lt, if◌then◌else◌}
use Rattle.std.specs.List.{All, AllPairs, Contains}
use Rattle.std.proofs.lemmas.Bool.{cases_lt, cond_both, ltb-true, ltb-false}
use Rattle.std.proofs.lemmas.List.Elements.{All-nil, All-cons}
use Rattle.std.proofs.lemmas.List.Kept.{AllPairs-cons}

-- x is one of them
abbrev pub Has : List ℕ → ℕ → Type 0
Has [] x = ⊥
Has (p ∷ ps) x = (p ≡ x) ⊎ Has ps x

pub all_of : (P : ℕ → Type 0) (ps : List ℕ) → ((x : ℕ) → Has ps x → P x) → All P ps
all_of P [] f = All-nil P
all_of P (p ∷ ps) f = All-cons P p ps (f p (inl refl)) (all_of P ps (λ x has. f x (inr has)))

pub has_contains : (ps : List ℕ) (x : ℕ) → Has ps x → Contains ps x
has_contains [] x h = absurd h
has_contains (p ∷ ps) x (inl e) = (0, omega arith, e)
has_contains (p ∷ ps) x (inr later) = let rest = has_contains ps x later in let lt = rest.1 in (suc rest.0, omega arith, rest.2)

pub has_take : (n : ℕ) (ps : List ℕ) (x : ℕ) → Has (take n ps) x → Has ps x
has_take zero ps x h = absurd h
has_take (suc n) [] x h = absurd h
has_take (suc n) (p ∷ ps) x (inl e) = inl e
has_take (suc n) (p ∷ ps) x (inr later) = inr (has_take n ps x later)

module _ (d : ℕ → ℕ) where
  abbrev pub Near : ℕ → ℕ → Type 0
  Near p q = (d p < d q) ⊎ ((d p ≡ d q) × (p < q))

  pub near_not : (p q : ℕ) → Near p q → Near q p → ⊥
  near_not p q (inl a) (inl b) = omega arith
  near_not p q (inl a) (inr b) = omega arith
  near_not p q (inr a) (inl b) = omega arith
  near_not p q (inr a) (inr b) = omega arith

  -- each comes nearer than all after it
  abbrev pub Ranked : List ℕ → Type 0
  Ranked [] = Unit {0}
  Ranked (p ∷ ps) = ((x : ℕ) → Has ps x → Near p x) × Ranked ps

  pub ranked_take : (n : ℕ) (ps : List ℕ) → Ranked ps → Ranked (take n ps)
  ranked_take zero ps h = tt
  ranked_take (suc n) [] h = tt
  ranked_take (suc n) (p ∷ ps) h = (λ x has. h.0 x (has_take n ps x has), ranked_take n ps h.1)

  pub ranked_pairs : (ps : List ℕ) → Ranked ps → AllPairs (λ p q. Near p q) ps
  ranked_pairs [] h = λ i j x lt within. absurd (omega arith)
  ranked_pairs (p ∷ ps) h = AllPairs-cons (λ p q. Near p q) p ps (all_of (Near p) ps h.0) (ranked_pairs ps h.1)

  -- the first n of a ranked list leave out only what comes after them
  pub first_or_past : (n : ℕ) (ps : List ℕ) (x : ℕ) → Ranked ps → Has ps x
      → Has (take n ps) x ⊎ ((length (take n ps) ≡ n) × ((p : ℕ) → Has (take n ps) p → Near p x))
  first_or_past n [] x ranked has = absurd has
  first_or_past zero (p ∷ ps) x ranked has = inr (refl, λ q none. absurd none)
  first_or_past (suc n) (p ∷ ps) x ranked (inl e) = inl (inl e)
  first_or_past (suc n) (p ∷ ps) x ranked (inr later) = elim (first_or_past n ps x ranked.1 later) [
    | inl first ↦ inl (inr first)
    | inr past ↦ inr (
      ap suc past.0,
      λ q has. elim has [
        | inl e ↦ subst (λ y. Near y x) e (ranked.0 x later)
        | inr rest ↦ past.1 q rest
      ],
    )
  ]

  -- a later position, before the first one that is farther
  abbrev pub put : ℕ → List ℕ → List ℕ
  put q [] = q ∷ []
  put q (p ∷ ps) = if nat_lt (d q) (d p) then q ∷ p ∷ ps else p ∷ put q ps

  pub put_has : (q : ℕ) (ps : List ℕ) (x : ℕ) → (q ≡ x) ⊎ Has ps x → Has (put q ps) x
  put_has q [] x h = h
  put_has q (p ∷ ps) x h = cond_both (nat_lt (d q) (d p)) (q ∷ p ∷ ps) (p ∷ put q ps) (λ l. Has l x) (λ e. h) (λ e. elim h [
    | inl new ↦ inr (put_has q ps x (inl new))
    | inr old ↦ elim old [ inl here ↦ inl here | inr later ↦ inr (put_has q ps x (inr later)) ]
  ])

  pub put_has_only : (q : ℕ) (ps : List ℕ) (x : ℕ) → Has (put q ps) x → (q ≡ x) ⊎ Has ps x
  put_has_only q [] x = λ h. h
  put_has_only q (p ∷ ps) x = cond_both (nat_lt (d q) (d p)) (q ∷ p ∷ ps) (p ∷ put q ps) (λ l. Has l x → (q ≡ x) ⊎ Has (p ∷ ps) x) (λ e h. h) (λ e h. elim h [
    | inl here ↦ inr (inl here)
    | inr later ↦ elim (put_has_only q ps x later) [ inl new ↦ inl new | inr old ↦ inr (inr old) ]
  ])

  pub ranked_put : (q : ℕ) (ps : List ℕ) → Ranked ps → ((x : ℕ) → Has ps x → x < q) → Ranked (put q ps)
  ranked_put q [] h before = (λ x none. absurd none, tt)
  ranked_put q (p ∷ ps) h before = cond_both (nat_lt (d q) (d p)) (q ∷ p ∷ ps) (p ∷ put q ps) Ranked
      (λ e. (
        λ x has. let lt = ltb-true (d q) (d p) e in elim has [
          | inl here ↦ inl (subst (λ y. d q < d y) here lt)
          | inr later ↦ elim (h.0 x later) [ inl far ↦ inl (omega arith) | inr level ↦ inl (omega arith) ]
        ],
        h,
      ))
      (λ e. (
        λ x has. elim (put_has_only q ps x has) [
          | inl new ↦ subst (Near p) new (last p (ltb-false (d q) (d p) e) (before p (inl refl)))
          | inr old ↦ h.0 x old
        ],
        ranked_put q ps h.1 (λ x has. before x (inr has)),
      ))
    where
      last : (p : ℕ) → d p ≤ d q → p < q → Near p q
      last p le lt = elim (cases_lt (d p) (d q)) [ inl less ↦ inl less | inr same ↦ inr (omega arith, lt) ]
