-- The rule of the lock word, and what its steps show.
use Rattle.std.specs.Prelude.{◌≡◌, ◌≢◌, ℕ, ◌<◌, ◌≤◌, ◌⊎◌, List, [], ◌∷◌, ◌++◌, Option, None, Some}
use Rattle.std.specs.Prelude.{length, flat_map, sum_by}
use mathlib.Core.Option as maybe
use Rattle.atomic_table.specs.Table.{State, Me, Step}
use Rattle.tk_lanes.specs.Lanes.{lane_at}
use Rattle.tk_locks.specs.NeedView.{NeedView}
use Rattle.tk_locks.specs.Holdings.{AreCompatible, WereHeld, held_lane, held_word}
use Rattle.tk_locks.specs.declared.rules.SeatNote.{SeatNote}

abbrev pub seat_note : ℕ → List (Option NeedView) → List ℕ → SeatNote
seat_note seats held seen = record { seats = seats; held = held; seen = seen }

-- what all seats of a book hold
abbrev pub holdings : List SeatNote → List (Option NeedView)
holdings views = flat_map (λ v. v.held) views

-- The word is the sum of the words of what the seats hold, no lane's sum is above 15, and no two
-- seats' needs conflict.
pub record HoldingsFitWord (seats : ℕ) (s : State NeedView SeatNote) : Type 0 where
  pub word : s.words ≡ sum_by held_word (holdings s.views) ∷ []
  pub lanes : (r : ℕ) → r < 16 → sum_by (λ h. held_lane h r) (holdings s.views) ≤ 15
  pub compatible : AreCompatible (holdings s.views)
  pub count : length (holdings s.views) ≡ seats

-- The seat read one word more, the one that was found. Its lanes are at least the seat's own, and
-- it is the word of what the seats held at that moment.
abbrev pub WordWasLoaded : Step NeedView → Me NeedView SeatNote → ℕ → Me NeedView SeatNote → Type 0
WordWasLoaded st old x new =
    (new ≡ (seat_note old.0.seats old.0.held (old.0.seen ++ x ∷ []), old.1))
    × ((r : ℕ) → r < 16 → sum_by (λ h. held_lane h r) old.0.held ≤ lane_at x r)
    × ((own : Option NeedView) → old.0.held ≡ own ∷ [] → WereHeld old.0.seats own x)

-- the need that a step was given, if it was given one
abbrev pub need_of_operand : maybe.Option NeedView → Option NeedView
need_of_operand maybe.none = None
need_of_operand (maybe.some n) = Some n

-- The seat holds the need that it was given. Where it held nothing before, the new word is that of
-- what the seats hold now.
pub record HasTaken (st : Step NeedView) (old new : Me NeedView SeatNote) : Type 0 where
  pub after : new ≡ (seat_note old.0.seats (need_of_operand st.said ∷ []) old.0.seen, old.1)
  pub together : (n : NeedView) → st.said ≡ maybe.some n → old.0.held ≡ None ∷ []
      → WereHeld old.0.seats (Some n) st.second

-- the word was the expected one, and the seat holds the need that it was given; or another word was
-- found, which the seat read
abbrev pub WasExchanged : Step NeedView → Me NeedView SeatNote → ℕ → Me NeedView SeatNote → Type 0
WasExchanged st old x new =
    ((x ≡ st.first) × HasTaken st old new)
    ⊎ ((x ≢ st.first) × (new ≡ (seat_note old.0.seats old.0.held (old.0.seen ++ x ∷ []), old.1)))

-- the seat holds nothing afterwards
abbrev pub WasReleased : Step NeedView → Me NeedView SeatNote → ℕ → Me NeedView SeatNote → Type 0
WasReleased st old x new = new ≡ (seat_note old.0.seats (None ∷ []) old.0.seen, old.1)
