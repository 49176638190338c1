-- What the matchers answer.
use Rattle.std.specs.Prelude.{◌≡◌, ◌≢◌, ℕ, ◌<◌, true, false, List, length, Some, slice_get}
use Rattle.tk_events.specs.declared.events.Entry.{Entry}
use Rattle.tk_record.specs.Recorded.{Recorded}
use Rattle.tk_record.specs.Selections.{Selected, events_of}
use Rattle.tk_query_conditions.specs.declared.conditions.Condition.{Condition}
use Rattle.tk_query.specs.declared.answers.Exact.{Exact}
use Rattle.tk_query.specs.declared.answers.Exact.TheVariants as exact
use Rattle.tk_query.specs.declared.answers.Loose.{Loose}
use Rattle.tk_query.specs.declared.answers.Loose.TheVariants as loose
use Rattle.tk_query.specs.declared.answers.InOrder.{InOrder}
use Rattle.tk_query.specs.declared.answers.InOrder.TheVariants as in_order
use Rattle.tk_query.specs.Holds.{holds}
use Rattle.tk_query.specs.Asked.{fits}
use Rattle.tk_query.specs.InOrder.{IsLeastInTurn, IsFirstStuck}

-- condition k holds of event k
abbrev pub HoldsAt : Recorded → List Condition → List Entry → ℕ → Type 0
HoldsAt r cs l k =
    (c : Condition) × (e : Entry)
    × (slice_get cs k ≡ Some c) × (slice_get l k ≡ Some e) × (holds r c e ≡ true)

-- k is the least number whose condition doesn't hold of the event of this number
pub record IsFirstUnlike (r : Recorded) (cs : List Condition) (l : List Entry) (k : ℕ) :
    Type 0 where
  pub condition : Condition
  pub event : Entry
  pub condition_is : slice_get cs k ≡ Some condition
  pub event_is : slice_get l k ≡ Some event
  pub fails : holds r condition event ≡ false
  pub before : (j : ℕ) → j < k → HoldsAt r cs l j

-- one condition for each event, in their order
abbrev pub IsExact : Selected → List Condition → Exact → Type 0
IsExact asked cs exact.Yes =
    (length cs ≡ length asked.kept)
    × ((k : ℕ) → k < length cs → HoldsAt asked.recorded cs (events_of asked) k)
IsExact asked cs exact.WrongCount = length cs ≢ length asked.kept
IsExact asked cs (exact.No k) =
    (length cs ≡ length asked.kept) × IsFirstUnlike asked.recorded cs (events_of asked) k

-- condition k holds of some event
abbrev pub HoldsSomewhere : Selected → List Condition → ℕ → Type 0
HoldsSomewhere asked cs k =
    (c : Condition) × (position : ℕ)
    × (slice_get cs k ≡ Some c) × (fits asked c position ≡ true)

-- k is the least number whose condition holds of no event
pub record IsFirstNowhere (asked : Selected) (cs : List Condition) (k : ℕ) : Type 0 where
  pub condition : Condition
  pub condition_is : slice_get cs k ≡ Some condition
  pub nowhere : (position : ℕ) → fits asked condition position ≡ false
  pub before : (j : ℕ) → j < k → HoldsSomewhere asked cs j

-- some event for each condition
abbrev pub IsLoose : Selected → List Condition → Loose → Type 0
IsLoose asked cs loose.Yes = (k : ℕ) → k < length cs → HoldsSomewhere asked cs k
IsLoose asked cs (loose.No k) = IsFirstNowhere asked cs k

-- the least positions in the record at which the conditions hold in turn, or the least number up to
-- which there are none
abbrev pub IsInOrder : Selected → List Condition → InOrder → Type 0
IsInOrder asked cs (in_order.Yes positions) = IsLeastInTurn (fits asked) cs positions.items
IsInOrder asked cs (in_order.No k) = IsFirstStuck (fits asked) cs k
