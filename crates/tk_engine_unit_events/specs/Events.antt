-- A unit of a hierarchical engine, as contracts see it.
use Rattle.std.specs.Prelude.{◌≡◌, ℕ, ◌++◌, All, List, [], ◌∷◌}
use Rattle.tk_queue_session.specs.Senders.{SenderView, record_of_sender}
use Rattle.tk_query_lifecycle.specs.Lifecycle.{HasId}
use Rattle.tk_events.specs.declared.events.Event.{Event}
use Rattle.tk_events.specs.declared.kinds.Kind.TheVariants.{Started}
use Rattle.tk_record.specs.Recorded.{Recorded}
use Rattle.tk_engine_lifecycle.specs.Units.{Frame}
use Rattle.tk_engine_lifecycle.specs.UnderWay.{IsOneOf, so_far}
use Rattle.tk_ids.specs.IdText.{IsBelow}
use Rattle.tk_engine_unit_events.specs.Emitting.{IsEmitting, Progress, since}
use Rattle.tk_engine_unit_events.specs.Nesting.{EventsNest, LacksFinish}
use Rattle.tk_engine_unit_events.specs.RegisteredIds.{is_registered}
use Rattle.tk_engine_unit_events.specs.Running.{RunningId, keys_of}
use Rattle.tk_engine_unit_events.specs.Units.{RunsUnit, UnitKeys}

-- where a unit stands whose keys run, innermost first, and that has registered these ids
abbrev pub progress : List RunningId → List (List ℕ) → ℕ → Progress
progress running registered next = record {
  running = keys_of running;
  registered = is_registered registered;
  next = next;
}

-- each of the running keys has its id in the sink
abbrev pub HaveIds : SenderView → List RunningId → Type 0
HaveIds s running = All (λ k. HasId (record_of_sender s) k.key k.id) running

-- each running key stands below those that started before it
abbrev pub AreChained : List RunningId → Type 0
AreChained [] = Unit {0}
AreChained (key ∷ outer) = All (λ above. IsBelow above.id key.id) outer × AreChained outer

-- Of the events of a unit under way: until it finishes, a key that started has its own events, and
-- is one of the running keys. These have their ids in the record, and each stands below the next.
pub record IsNesting (r : Recorded) (events : List Event) (running : List RunningId) :
    Type 0 where
  pub nest : EventsNest r events
  pub unfinished :
      (before : List Event) (start : Event) (after : List Event)
      → events ≡ before ++ start ∷ after → start.kind ≡ Started → LacksFinish start.key after
      → IsOneOf start.key (keys_of running)
  pub ids : All (λ k. HasId r k.key k.id) running
  pub chain : AreChained running

-- what the sink took since the unit began is that of a unit under way
pub record IsRunning (f : Frame) (unit : ℕ) (start now : SenderView) (running : List RunningId)
    (registered : List (List ℕ)) (next : ℕ) : Type 0 where
  pub emitting : IsEmitting f unit (since start now) (progress running registered next)
  pub ids : HaveIds now running
  pub nesting : IsNesting (so_far f start.worker emitting.events) emitting.events running

-- the sink took a list of events since the unit began, which is what the unit emits
abbrev pub HasRun :
    Frame → (Event → Type 0) → UnitKeys → SenderView → SenderView → Type 0
HasRun f may_step keys start now =
    (events : List Event) × (now.sent ≡ start.sent ++ events)
    × RunsUnit f may_step keys (record { worker = start.worker; events = events })
