-- Positions at which a list of conditions holds in turn. `fits c p` says that c holds at p.
use Rattle.std.specs.Prelude.{◌≡◌, ℕ, ◌+◌, ◌<◌, ◌≤◌, ◌⊎◌, Bool, true, false, List, [], ◌∷◌, length}
use Rattle.std.specs.Prelude.{take}

module _ {C : Type 0} (fits : C → ℕ → Bool) where
  -- the conditions hold in turn at these positions, which strictly increase from `from` on
  abbrev pub HoldInTurn : ℕ → List C → List ℕ → Type 0
  HoldInTurn from [] [] = Unit {0}
  HoldInTurn from (c ∷ cs) (p ∷ ps) = (from ≤ p) × (fits c p ≡ true) × HoldInTurn (p + 1) cs ps
  HoldInTurn from _ _ = ⊥

  -- the conditions hold in turn at some positions
  abbrev pub CanHoldInTurn : List C → Type 0
  CanHoldInTurn cs = (ps : List ℕ) × HoldInTurn 0 cs ps

-- the first list doesn't come after the second in lexicographic order
abbrev pub IsNotAfter : List ℕ → List ℕ → Type 0
IsNotAfter [] qs = Unit {0}
IsNotAfter (p ∷ ps) [] = ⊥
IsNotAfter (p ∷ ps) (q ∷ qs) = (p < q) ⊎ ((p ≡ q) × IsNotAfter ps qs)

-- the least positions, in lexicographic order, at which the conditions hold in turn
pub record IsLeastInTurn {C : Type 0} (fits : C → ℕ → Bool) (cs : List C) (ps : List ℕ) :
    Type 0 where
  pub holds : HoldInTurn fits 0 cs ps
  pub least : (qs : List ℕ) → HoldInTurn fits 0 cs qs → IsNotAfter ps qs

-- k is the least number such that the conditions 0 to k hold in turn nowhere
pub record IsFirstStuck {C : Type 0} (fits : C → ℕ → Bool) (cs : List C) (k : ℕ) : Type 0 where
  pub within : k < length cs
  pub stuck : ¬ CanHoldInTurn fits (take (k + 1) cs)
  pub before : (j : ℕ) → j < k → CanHoldInTurn fits (take (j + 1) cs)

-- the condition holds at p, and at no position from `from` up to p
pub record IsNextFit {C : Type 0} (fits : C → ℕ → Bool) (c : C) (from p : ℕ) : Type 0 where
  pub from_on : from ≤ p
  pub fit : fits c p ≡ true
  pub first : (q : ℕ) → from ≤ q → q < p → fits c q ≡ false

-- the condition holds at no position from `from` on
abbrev pub HasNoFit : {C : Type 0} → (C → ℕ → Bool) → C → ℕ → Type 0
HasNoFit fits c from = (q : ℕ) → from ≤ q → fits c q ≡ false
