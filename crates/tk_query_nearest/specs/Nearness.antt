-- The events that come nearest to a condition.
use Rattle.std.specs.Prelude.{◌≡◌, ℕ, ◌<◌, ◌≤◌, ◌⊎◌, List, length, Option, Some, None, All}
use Rattle.std.specs.Prelude.{AllPairs, Contains}
use Rattle.tk_events.specs.declared.events.Entry.{Entry}
use Rattle.tk_record.specs.Recorded.{Recorded}
use Rattle.tk_record.specs.Selections.{Selected}
use Rattle.tk_query_conditions.specs.Cond.{Cond}
use Rattle.tk_query.specs.Asked.{event_at}
use Rattle.tk_query_nearest.specs.Parts.{distance}
use Rattle.tk_query_nearest.specs.declared.candidates.TheConstants.{MAX_NEAREST}

-- one of the events asked stands at this position, which isn't lower than `first`
pub record IsAskedFrom (asked : Selected) (first position : ℕ) : Type 0 where
  pub from : first ≤ position
  pub event : Entry
  pub event_is : event_at asked.kept position ≡ Some event

-- how many parts of the condition don't hold of the event, 0 where there is none
abbrev pub distance_of : Recorded → Cond → Option Entry → ℕ
distance_of r c None = 0
distance_of r c (Some e) = distance r c e

-- how many parts of the condition don't hold of the event asked at this position
abbrev pub distance_at : Selected → Cond → ℕ → ℕ
distance_at asked c position = distance_of asked.recorded c (event_at asked.kept position)

-- Fewer parts of the condition don't hold of the event at p than of the one at q, or as many, and p
-- is the lower position.
abbrev pub IsNearer : Selected → Cond → ℕ → ℕ → Type 0
IsNearer asked c p q =
    (distance_at asked c p < distance_at asked c q)
    ⊎ ((distance_at asked c p ≡ distance_at asked c q) × (p < q))

-- The positions of the three events that come nearest to the condition, the nearest first, or of
-- all if there are fewer: of the events asked that stand at `first` or after it.
pub record IsNearest (asked : Selected) (first : ℕ) (c : Cond) (positions : List ℕ) :
    Type 0 where
  pub asked_from : All (IsAskedFrom asked first) positions
  pub order : AllPairs (IsNearer asked c) positions
  pub others :
      (q : ℕ) → IsAskedFrom asked first q → ¬ Contains positions q →
      All (λ p. IsNearer asked c p q) positions
  pub at_most : length positions ≤ MAX_NEAREST
  pub all_if_fewer :
      length positions < MAX_NEAREST → (q : ℕ) → IsAskedFrom asked first q →
      Contains positions q
