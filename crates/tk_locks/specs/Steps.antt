-- What the steps of a book do to what its seats hold. In each fact `holds` is the rule of the
-- book's word, and `outcome` is what a step shows of the word that it finds and of the seat.
use Rattle.std.specs.Prelude.{◌≡◌, ◌≢◌, ℕ, ◌-◌, ◌<◌, ◌≤◌, List, [], ◌∷◌, ◌++◌, Option, None, Some}
use Rattle.std.specs.Prelude.{length, replicate, sum_by, take, slice_set}
use Rattle.std.specs.List.Sorted.{IsPermutation}
use mathlib.Core.Option.{none, some}
use lib.ListN.{get_elem?}
use Rattle.atomic_table.specs.Table.{State, Me, Step, Act, step, stepped, carried_after}
use Rattle.tk_locks.specs.NeedView.{NeedView}
use Rattle.tk_locks.specs.Holdings.{AreCompatible, Grants, Releases, held_lane, held_word}
use Rattle.tk_locks.specs.LockWord.{holdings}
use Rattle.tk_locks.specs.declared.rules.SeatNote.{SeatNote}

-- A step of one seat: the book's word and the notes of all its seats before the step, what the seat
-- knows before it, and the seat's note after it. A book's table has no slots of its own, but the
-- rule of any table speaks of them: `slots` is their number, `act` what the step does with them.
pub record SeatStep : Type 0 where
  pub seats : ℕ
  pub state : State NeedView SeatNote
  pub seat : ℕ
  pub before : Me NeedView SeatNote
  pub note : SeatNote
  pub slots : ℕ
  pub act : Act NeedView

-- what the seat knows after the step
abbrev pub after : SeatStep → Me NeedView SeatNote
after t = (t.note, carried_after t.before.1 t.act)

-- what all seats hold before the step
abbrev pub held_before : SeatStep → List (Option NeedView)
held_before t = holdings t.state.views

-- what all seats hold after the step
abbrev pub held_after : SeatStep → List (Option NeedView)
held_after t = holdings (slice_set t.state.views t.seat t.note)

-- the place of the seat's need in the list of what all seats hold
abbrev pub holding_index : SeatStep → ℕ
holding_index t = length (holdings (take t.seat t.state.views))

-- the rule holds before the step, which finds this word, and the seat's note is that of the state
pub record FindsWord (holds : ℕ → State NeedView SeatNote → Type 0) (t : SeatStep) (found : ℕ)
    : Type 0 where
  pub rule : holds t.seats t.state
  pub note : get_elem? t.state.views t.seat ≡ some t.before.0
  pub word : t.state.words ≡ found ∷ []

-- Between any two steps the word is the sum of the words of what the seats hold, no lane's sum is
-- above 15, and no two seats' needs conflict.
abbrev pub IsSumOfHoldings : (ℕ → State NeedView SeatNote → Type 0) → Type 0
IsSumOfHoldings holds = (seats : ℕ) (s : State NeedView SeatNote) → holds seats s
    → (s.words ≡ sum_by held_word (holdings s.views) ∷ [])
    × ((r : ℕ) → r < 16 → sum_by (λ h. held_lane h r) (holdings s.views) ≤ 15)
    × AreCompatible (holdings s.views)

-- an exchange that finds the word that it expects is a grant of the need that it was given
abbrev pub ExchangeIsGrant :
    (ℕ → State NeedView SeatNote → Type 0) →
    (Step NeedView → Me NeedView SeatNote → ℕ → Me NeedView SeatNote → Type 0) → Type 0
ExchangeIsGrant holds outcome = (t : SeatStep) (n : NeedView) (expected next : ℕ)
    → FindsWord holds t expected → t.before.0.held ≡ None ∷ []
    → holds t.seats (stepped t.state 0 next t.seat t.before.1 t.note t.act)
    → outcome (step t.slots 0 expected next (some n)) t.before expected (after t)
    → Grants (held_before t) (holding_index t) n (held_after t)

-- an exchange that finds another word changes nothing of what the seats hold
abbrev pub FailureIsNone :
    (ℕ → State NeedView SeatNote → Type 0) →
    (Step NeedView → Me NeedView SeatNote → ℕ → Me NeedView SeatNote → Type 0) → Type 0
FailureIsNone holds outcome = (t : SeatStep) (n : NeedView) (expected next found : ℕ)
    → FindsWord holds t found → found ≢ expected
    → outcome (step t.slots 0 expected next (some n)) t.before found (after t)
    → held_after t ≡ held_before t

-- a load changes nothing of what the seats hold
abbrev pub LoadIsNone :
    (ℕ → State NeedView SeatNote → Type 0) →
    (Step NeedView → Me NeedView SeatNote → ℕ → Me NeedView SeatNote → Type 0) → Type 0
LoadIsNone holds outcome = (t : SeatStep) (found : ℕ)
    → FindsWord holds t found
    → outcome (step t.slots 0 0 0 none) t.before found (after t)
    → held_after t ≡ held_before t

-- a subtraction is a release of what the seat holds
abbrev pub SubtractionIsRelease :
    (ℕ → State NeedView SeatNote → Type 0) →
    (Step NeedView → Me NeedView SeatNote → ℕ → Me NeedView SeatNote → Type 0) → Type 0
SubtractionIsRelease holds outcome = (t : SeatStep) (n : NeedView) (subtracted found : ℕ)
    → FindsWord holds t found → t.before.0.held ≡ Some n ∷ []
    → outcome (step t.slots 0 subtracted 0 none) t.before found (after t)
    → Releases (held_before t) (holding_index t) n (held_after t)

-- A split of a seat that stands for some places, all empty, is no step: the new seat has one of
-- these places, and what all seats hold stays, in another order at most.
abbrev pub SplitIsNone : (SeatNote → SeatNote) → (SeatNote → SeatNote) → Type 0
SplitIsNone left right =
    (views : List SeatNote) (seat places : ℕ) (v : SeatNote)
    → get_elem? views seat ≡ some v → v.held ≡ replicate places None → 0 < places
    → ((left v).held ≡ replicate (places - 1) None) × ((right v).held ≡ None ∷ [])
    × IsPermutation (holdings views) (holdings (slice_set views seat (left v) ++ right v ∷ []))

-- A join of two seats is no step: the first holds afterwards what both held, the other has no place
-- left, and what all seats hold stays, in another order at most.
abbrev pub JoinIsNone : (SeatNote → SeatNote → SeatNote) → SeatNote → Type 0
JoinIsNone both spent =
    (views : List SeatNote) (seat other : ℕ) (v w : SeatNote)
    → seat ≢ other → get_elem? views seat ≡ some v → get_elem? views other ≡ some w
    → ((both v w).held ≡ w.held ++ v.held) × (spent.held ≡ [])
    × IsPermutation (holdings views)
    (holdings (slice_set (slice_set views seat (both v w)) other spent))
