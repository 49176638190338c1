-- A replay goes through states of the core.
use Rattle.std.specs.Prelude.{◌≡◌, ℕ, ◌≤◌, List, ◌++◌, length, take, slice_get, Some, None, true}
use Rattle.std.specs.Prelude.{Result, Err}
use Rattle.std.specs.List.{AllByRecursion}
use Rattle.tk_ids.specs.declared.descriptors.Descriptor.{Descriptor}
use Rattle.tk_events.specs.declared.events.Event.{Event}
use Rattle.tk_record.specs.Mixing.{IsWorkerOf}
use Rattle.tk_queue_session.specs.Limits.{most_workers, worker_slots}
use Rattle.tk_queue_replay.specs.declared.turns.Turn.{Turn}
use Rattle.tk_queue_replay.specs.declared.turns.Turn.TheVariants.{Worker}
use Rattle.tk_record.specs.Recorded.{Recorded}
use Rattle.tk_queue_replay.specs.declared.replays.ReplayFault.{ReplayFault}
use Rattle.tk_queue_replay.specs.declared.replays.ReplayFault.TheVariants as faults
use Rattle.tk_queue_replay.specs.ReplayText.{IsPlayed}
use Rattle.tk_queue_session.specs.CoreState.{has_ended}
use Rattle.tk_queue_session.specs.Core.{Core, IsCore, entries}
use Rattle.tk_queue_replay.specs.Replay.{Moment, Faulty, IsTurn, script_of, count_of, plays, start}
use Rattle.tk_queue_replay.specs.Replay.{ReplayInput, StopsAt}
use Rattle.tk_queue_replay.specs.TurnItems.{AreItemsOf, item_after}

-- the moment is the core's state in which each worker sent as much of its script as is counted, and
-- all of it where it ended
pub record IsMomentOf (scripts : List (List Event)) (m : Moment) (c : Core) : Type 0 where
  pub lawful : IsCore (length scripts) c
  pub waits : c.waiting ≡ m.core.waiting
  pub taken : entries c.taken ≡ m.taken.entries
  pub sent :
      (w : ℕ) → IsWorkerOf (length scripts) w → c.sent w ≡ take (count_of m w) (script_of scripts w)
  pub ended : (w : ℕ) → IsWorkerOf (length scripts) w → c.ended w ≡ has_ended m.core w
  pub whole :
      (w : ℕ) → IsWorkerOf (length scripts) w → c.ended w ≡ true → c.sent w ≡ script_of scripts w
  pub counts : length m.emitted ≡ length scripts
  pub marks : length m.core.ended ≡ worker_slots

-- Where no turn stops, the last moment is a state of the core: each worker's items, taken and
-- waiting, are the events that it emitted so far, then its mark if it ended. All items together are
-- those of the turns, in their order.
abbrev pub ReplaysCore : Type 0
ReplaysCore =
    (table : List Descriptor) (scripts : List (List Event)) (turns : List Turn) (m : Moment)
    → length scripts ≤ most_workers → AllByRecursion (IsTurn (length scripts)) turns
    → plays scripts turns (start table (length scripts)) ≡ Some m
    → (c : Core) × IsMomentOf scripts m c × AreItemsOf scripts turns (c.taken ++ c.waiting)

-- a turn is faulty where the script and the mark of its worker have no item for it
abbrev pub FaultyHasNoItem : Type 0
FaultyHasNoItem =
    (p : ReplayInput) (i : ℕ)
    → length p.scripts ≤ most_workers → AllByRecursion (IsTurn (length p.scripts)) p.turns
    → StopsAt p i Faulty
    → (w : ℕ) × (slice_get p.turns i ≡ Some (Worker w))
    × (item_after p.scripts (take i p.turns) w ≡ None)

-- an answer that depends on the input alone, and not on memory
abbrev pub IsSettled : Result Recorded ReplayFault → Type 0
IsSettled (Err faults.Memory) = ⊥
IsSettled _ = Unit {0}

-- no input has two answers
abbrev pub AnswerIsUnique : Type 0
AnswerIsUnique =
    (input : List ℕ) (a b : Result Recorded ReplayFault) → IsSettled a → IsSettled b
    → IsPlayed input a → IsPlayed input b → a ≡ b
