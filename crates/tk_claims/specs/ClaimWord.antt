-- The rule of the claim word, and what its one step shows.
use Rattle.std.specs.Prelude.{◌≡◌, ℕ, ◌+◌, ◌-◌, ◌^◌, ◌<◌, ◌≤◌, min, ◌⊎◌, List, [], ◌∷◌, ◌++◌}
use Rattle.std.specs.Prelude.{sum_by, All}
use mathlib.Core.Option.{some}
use lib.ListN.{get_elem?}
use Rattle.atomic_table.specs.Table.{State, Me, Step}
use Rattle.tk_base.specs.declared.limits.TheConstants.{MAX_WORKERS}
use Rattle.tk_claims.specs.declared.claim_rules.ClaimLimits.{ClaimLimits}
use Rattle.tk_claims.specs.declared.claim_rules.Drawn.{Drawn}
use Rattle.tk_claims.specs.Claims.{times, once_below}

-- what a seat knows, of these fields
abbrev pub drawn : ClaimLimits → ℕ → ℕ → List ℕ → Drawn
drawn claim_limits parts spent numbers =
    record { claim_limits = claim_limits; parts = parts; spent = spent; numbers = numbers }

-- what the rule says of one view, where the word is `next`: a view with no part is spent and empty
pub record Fits (claim_limits : ClaimLimits) (next : ℕ) (v : Drawn) : Type 0 where
  pub limits_same : 0 < v.parts → v.claim_limits ≡ claim_limits
  pub spent_once : v.spent ≤ v.parts
  pub below : All (λ y. y < next) v.numbers
  pub idle : v.parts ≡ 0 → v.numbers ≡ []

-- the word is how many draws there were, and those below the limit are the numbers drawn
pub record DrawsFitWord (claim_limits : ClaimLimits) (s : State (Unit {0}) Drawn) : Type 0 where
  pub few : claim_limits.seats ≤ MAX_WORKERS
  pub small : claim_limits.limit < 2 ^ 32
  pub next : ℕ
  pub word : s.words ≡ next ∷ []
  pub parts : sum_by (λ v. v.parts) s.views ≡ claim_limits.seats
  pub spent : sum_by (λ v. v.spent) s.views ≡ next - claim_limits.limit
  pub once : (x : ℕ) →
      sum_by (λ v. times x v.numbers) s.views ≡ once_below x (min next claim_limits.limit)
  pub each : (i : ℕ) (v : Drawn) → get_elem? s.views i ≡ some v → Fits claim_limits next v

-- what a seat knows that drew a number more
abbrev pub with_number : ℕ → Drawn → Drawn
with_number x v = drawn v.claim_limits v.parts v.spent (v.numbers ++ x ∷ [])

-- what a seat knows that found that no number is left
abbrev pub with_no_number : Drawn → Drawn
with_no_number v = drawn v.claim_limits v.parts (v.spent + 1) v.numbers

-- a draw found a number below the limit, greater than all that the seat had, or it found that none
-- is left
abbrev pub Drew : Step (Unit {0}) → Me (Unit {0}) Drawn → ℕ → Me (Unit {0}) Drawn → Type 0
Drew st old x new =
    ((x < old.0.claim_limits.limit) × All (λ y. y < x) old.0.numbers
    × (new.0 ≡ with_number x old.0) × (new.1 ≡ old.1))
    ⊎ ((old.0.claim_limits.limit ≤ x) × (new.0 ≡ with_no_number old.0) × (new.1 ≡ old.1))

-- the limits of a seat that stands for no part of a claim
abbrev pub no_limits : ClaimLimits
no_limits = record { limit = 0; seats = 0 }
