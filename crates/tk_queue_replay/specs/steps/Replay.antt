-- What private clauses and proofs alone name.
use Rattle.std.specs.Prelude.{◌≡◌, ℕ, List, length, Result, Err, ◌^◌, ◌&&◌, [], ◌∷◌, Option, Some}
use Rattle.std.specs.Prelude.{None, codes, if◌then◌else◌, bytes_eq, nat_lt, nat_le, Ok}
use Rattle.tk_events.specs.declared.events.Event.{Event}
use Rattle.tk_record.specs.declared.records.AppendFault.{AppendFault}
use Rattle.tk_queue_replay.specs.declared.replays.ReplayFault.{ReplayFault}
use Rattle.tk_queue_replay.specs.Replay.{Moment, Stop, Faulty, Refuses, plays, start, ReplayInput}
use Rattle.tk_queue_replay.specs.Replay.{StopsAt}
use Rattle.tk_record_text.specs.Reading.{number_of}
use Rattle.tk_record_text.specs.steps.Reading.{◌>>=◌}
use Rattle.tk_queue_replay.specs.declared.turns.Turn.{Turn}
use Rattle.tk_queue_replay.specs.declared.turns.Turn.TheVariants.{Worker, Take}
use Rattle.tk_queue_session.specs.Limits.{most_workers}
use Rattle.tk_record.specs.Recorded.{Recorded}
use Rattle.tk_record.specs.declared.records.AppendFault.TheVariants as appends
use Rattle.tk_queue_replay.specs.declared.replays.ReplayFault.TheVariants as faults

-- the record refuses the entry for memory alone
abbrev pub IsMemory : AppendFault → Type 0
IsMemory (appends.Memory e) = Unit {0}
IsMemory _ = ⊥

-- the fault of a replay where the record refuses the entry at turn n
abbrev pub refusal : ℕ → AppendFault → ReplayFault
refusal n (appends.Memory _) = faults.Memory
refusal n (appends.UnknownKey e) = faults.Append n (appends.UnknownKey e)
refusal n (appends.Unlawful e) = faults.Append n (appends.Unlawful e)
refusal n (appends.Full e) = faults.Append n (appends.Full e)

-- the fault of a replay where turn n makes no step
abbrev pub IsStop : ℕ → Result Moment Stop → ReplayFault → Type 0
IsStop n step (faults.AfterEnd i) = (i ≡ n) × (step ≡ Err Faulty)
IsStop n step (faults.Append i fault) = (i ≡ n) × (step ≡ Err (Refuses fault))
IsStop n step faults.Memory = Unit {0}
IsStop n step _ = ⊥

-- the moment has as many workers and counts as there are scripts
abbrev pub Suits : Moment → List (List Event) → Type 0
Suits m scripts = (m.core.workers ≡ length scripts) × (length m.emitted ≡ length scripts)

-- ---- reading these lines by their fields

-- w, where it is 1 to n
abbrev pub within : ℕ → ℕ → Option ℕ
within n w = if nat_lt 0 w && nat_le w n then Some w else None

-- the number, from 1 to n, that the field is the decimal text of
abbrev pub worker_of : ℕ → List ℕ → Option ℕ
worker_of n field = number_of (2 ^ 8) field >>= within n

-- the number of workers that the fields of a line are
unfoldable pub workers_of : List (List ℕ) → Option ℕ
workers_of (letter ∷ count ∷ []) =
    if bytes_eq letter (codes "W") then worker_of most_workers count else None
workers_of _ = None

-- the turn that the field is
abbrev pub turn_of : ℕ → List ℕ → Option Turn
turn_of n field =
    if bytes_eq field (codes "t") then Some Take else (worker_of n field >>= λ w. Some (Worker w))

-- the turns that the fields are, one each
abbrev pub turns_from : ℕ → List (List ℕ) → Option (List Turn)
turns_from n [] = Some []
turns_from n (f ∷ fs) = do
  t ← turn_of n f
  more ← turns_from n fs
  Some (t ∷ more)

-- the turns that the fields of a line are
unfoldable pub turns_of : ℕ → List (List ℕ) → Option (List Turn)
turns_of n [] = None
turns_of n (letter ∷ rest) = if bytes_eq letter (codes "S") then turns_from n rest else None

-- ---- a line that may not stand where it stands

-- what a replay answers with the record of what is taken; `Memory` may always come
abbrev pub IsPlayedAs : ReplayInput → Result Recorded ReplayFault → Type 0
IsPlayedAs p (Ok r) =
    (m : Moment) × (plays p.scripts p.turns (start p.table (length p.scripts)) ≡ Some m)
    × (r ≡ m.taken)
IsPlayedAs p (Err (faults.AfterEnd i)) = StopsAt p i Faulty
IsPlayedAs p (Err (faults.Append i fault)) = StopsAt p i (Refuses fault)
IsPlayedAs p (Err faults.Memory) = Unit {0}
IsPlayedAs p (Err _) = ⊥
