-- What a run has recorded, and what closing its session returned.
use Rattle.std.specs.Prelude.{◌≡◌, ℕ, List, length, slice_index}
use Rattle.tk_events.specs.declared.events.Entry.{Entry}
use Rattle.tk_record.specs.Recorded.{Recorded}
use Rattle.tk_record.specs.Mixing.{IsWorkerOf, of_worker}
use Rattle.tk_queue_session.specs.Closing.{ClosedView, sent_in}

-- a record, and what closing the session of its run returned
pub record RunResults : Type 0 where
  pub recorded : Recorded
  pub closed : ClosedView

-- Of each of the workers 1 to n the entries are what it sent, in its order, and as many as its
-- number says. The number of any other is 0.
pub record IsTallied (n : ℕ) (closed : ClosedView) (entries : List Entry) : Type 0 where
  pub sent : (w : ℕ) → IsWorkerOf n w → of_worker w entries ≡ sent_in closed w
  pub each : (w : ℕ) → IsWorkerOf n w
      → slice_index closed.emitted w ≡ length (of_worker w entries)
  pub others : (w : ℕ) → ¬ IsWorkerOf n w → slice_index closed.emitted w ≡ 0

-- of two sessions of which the same is recorded each worker has one list and one number
abbrev pub TallyIsUnique : Type 0
TallyIsUnique =
    (n : ℕ) (a b : ClosedView) (entries : List Entry)
    → IsTallied n a entries → IsTallied n b entries
    → ((w : ℕ) → IsWorkerOf n w → sent_in a w ≡ sent_in b w)
    × ((w : ℕ) → slice_index a.emitted w ≡ slice_index b.emitted w)
