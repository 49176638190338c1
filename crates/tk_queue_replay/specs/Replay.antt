-- Replays: each worker goes through its script, by the order of the turns.
use Rattle.std.specs.Prelude.{◌≡◌, ℕ, ◌+◌, ◌-◌, if◌then◌else◌, List, [], ◌∷◌, length, take, get_or}
use Rattle.std.specs.Prelude.{replicate, slice_set, slice_get, Option, Some, None, Result, Ok, Err}
use Rattle.tk_ids.specs.declared.descriptors.Descriptor.{Descriptor}
use Rattle.tk_events.specs.declared.events.Event.{Event}
use Rattle.tk_events.specs.declared.events.Entry.{Entry}
use Rattle.tk_record.specs.declared.records.AppendFault.{AppendFault}
use Rattle.tk_record.specs.Recorded.{Recorded}
use Rattle.tk_record.specs.Record.{fault_of}
use Rattle.tk_record.specs.Entries.{with_entry}
use Rattle.tk_record.specs.Mixing.{IsWorkerOf}
use Rattle.tk_queue_session.specs.declared.items.Item.{Item}
use Rattle.tk_queue_session.specs.declared.items.Item.TheVariants.{Entry as Emitted, End}
use Rattle.tk_queue_replay.specs.declared.turns.Turn.{Turn}
use Rattle.tk_queue_replay.specs.declared.turns.Turn.TheVariants.{Worker, Take}
use Rattle.tk_queue_replay.specs.declared.replays.ReplayFault.{ReplayFault}
use Rattle.tk_queue_replay.specs.declared.replays.ReplayFault.TheVariants as faults
use Rattle.tk_queue_replay.specs.declared.replays.Replayed.{Replayed}
use Rattle.tk_queue_session.specs.CoreState.{CoreState, has_ended, fresh, emits, ends}

-- a moment of a replay: the core, how many events each worker emitted, from worker 1 on, and the
-- record of what was taken
pub record Moment : Type 0 where
  pub core : CoreState
  pub emitted : List ℕ
  pub taken : Recorded

-- why there is no next moment: the worker has ended, or the record refuses the entry that is taken
pub data Stop : Type 0 where
  Faulty : Stop
  Refuses : AppendFault → Stop

-- the events of worker w, from worker 1 on
abbrev pub script_of : List (List Event) → ℕ → List Event
script_of scripts w = get_or scripts (w - 1) []

-- how many events worker w emitted
abbrev pub count_of : Moment → ℕ → ℕ
count_of m w = get_or m.emitted (w - 1) 0

-- the moment after worker w emitted its next event, or its mark where there is no event left
abbrev pub next : ℕ → Moment → Option Event → Moment
next w m (Some e) = record {
  core = emits w e m.core;
  emitted = slice_set m.emitted (w - 1) (count_of m w + 1);
  taken = m.taken;
}
next w m None = record { core = ends w m.core; emitted = m.emitted; taken = m.taken }

-- the core where these items wait
abbrev pub waits : CoreState → List Item → CoreState
waits c xs = record { workers = c.workers; ended = c.ended; waiting = xs }

-- the moment after e was taken, xs wait, and the record answered with this fault or none
abbrev pub append_to : Moment → List Item → Entry → Option AppendFault → Result Moment Stop
append_to m xs e None =
    Ok (record { core = waits m.core xs; emitted = m.emitted; taken = with_entry m.taken e })
append_to m xs e (Some fault) = Err (Refuses fault)

-- the moment after the first of these waiting items was taken; a mark isn't recorded
abbrev pub take_item : Moment → List Item → Result Moment Stop
take_item m [] = Ok m
take_item m (Emitted e ∷ xs) = append_to m xs e (fault_of m.taken e)
take_item m (End w ∷ xs) =
    Ok (record { core = waits m.core xs; emitted = m.emitted; taken = m.taken })

-- the moment after one turn, or why it stops
abbrev pub turn_step : List (List Event) → Moment → Turn → Result Moment Stop
turn_step scripts m (Worker w) =
    if has_ended m.core w then Err Faulty
    else Ok (next w m (slice_get (script_of scripts w) (count_of m w)))
turn_step scripts m Take = take_item m m.core.waiting

-- what f makes of an answer, and nothing where there is none
abbrev pub after : {A : Type 0} → Result A Stop → (A → Option A) → Option A
after (Ok a) f = f a
after (Err stop) f = None

-- The moment after all of the turns, where none stops. It is a state of the queue's core: each
-- worker's items are its events in its order, then its mark if it ended (`ReplaysCore`).
abbrev pub plays : List (List Event) → List Turn → Moment → Option Moment
plays scripts [] m = Some m
plays scripts (t ∷ turns) m = after (turn_step scripts m t) (plays scripts turns)

-- the moment before the first turn of a replay with n workers
abbrev pub start : List Descriptor → ℕ → Moment
start table n =
    record {
      core = fresh n;
      emitted = replicate n 0;
      taken = record { table = table; entries = [] };
    }

-- what a replay is given: the static descriptors, the script of each worker, and the turns
pub record ReplayInput : Type 0 where
  pub table : List Descriptor
  pub scripts : List (List Event)
  pub turns : List Turn

abbrev pub replay_input : List Descriptor → List (List Event) → List Turn → ReplayInput
replay_input table scripts turns = record { table = table; scripts = scripts; turns = turns }

-- the turns before turn i go on, and turn i stops
pub record StopsAt (p : ReplayInput) (i : ℕ) (why : Stop) : Type 0 where
  pub moment : Moment
  pub turn : Turn
  pub before : plays p.scripts (take i p.turns) (start p.table (length p.scripts)) ≡ Some moment
  pub at : slice_get p.turns i ≡ Some turn
  pub stops : turn_step p.scripts moment turn ≡ Err why

-- what the replay shows of its last moment
pub record Shows (r : Replayed) (m : Moment) : Type 0 where
  pub taken : r.taken ≡ m.taken
  pub waiting : r.waiting.items ≡ m.core.waiting
  pub emitted : r.emitted.items ≡ m.emitted

-- what a replay answers; `Memory` may always come
abbrev pub IsReplayed :
    List Descriptor → List (List Event) → List Turn → Result Replayed ReplayFault → Type 0
IsReplayed table scripts turns (Ok r) =
    (m : Moment) × (plays scripts turns (start table (length scripts)) ≡ Some m) × Shows r m
IsReplayed table scripts turns (Err (faults.AfterEnd i)) =
    StopsAt (replay_input table scripts turns) i Faulty
IsReplayed table scripts turns (Err (faults.Append i fault)) =
    StopsAt (replay_input table scripts turns) i (Refuses fault)
IsReplayed table scripts turns (Err faults.Memory) = Unit {0}
IsReplayed table scripts turns (Err _) = ⊥

-- a turn of a session of n workers
abbrev pub IsTurn : ℕ → Turn → Type 0
IsTurn n (Worker w) = IsWorkerOf n w
IsTurn n Take = Unit {0}
