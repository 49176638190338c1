-- What a unit may emit next, so that it goes on keeping the lifecycle, and what it has kept then.
use Rattle.std.specs.Prelude.{◌≡◌, ◌≢◌, ℕ, ◌<◌, false, List, [], ◌∷◌}
use Rattle.tk_ids.specs.declared.descriptors.Descriptor.{Descriptor}
use Rattle.tk_events.specs.declared.events.Event.{Event}
use Rattle.tk_events.specs.declared.kinds.Kind.TheVariants.{Dynamic, Started, Skipped, Finished}
use Rattle.tk_events.specs.declared.payloads.Payload.TheVariants.{Described}
use Rattle.tk_query_lifecycle.specs.KeepsLifecycle.{is_step}
use Rattle.tk_engine_lifecycle.specs.Units.{Frame, KeepsAlone, KeepsAround}
use Rattle.tk_engine_lifecycle.specs.UnderWay.{IsOneOf, IsUnderWay, MayBegin, MayBeRegistered}
use Rattle.tk_engine_lifecycle.specs.UnderWay.{UnitState, emits, steps_so_far}

-- a unit that has emitted nothing is under way
abbrev pub Begins : Type 0
Begins =
    (f : Frame) (unit worker : ℕ)
    → IsUnderWay
    (record { frame = f; unit = unit; worker = worker; events = []; running = [] })

-- what holds of a unit of the engine while it is under way
pub record IsGoing (s : UnitState) : Type 0 where
  pub around : KeepsAround s.frame
  pub is_unit : s.unit < s.frame.units
  pub under_way : IsUnderWay s

-- a key that may begin and has no step yet may start, and is the innermost running one then
abbrev pub Starts : Type 0
Starts =
    (s : UnitState) (e : Event)
    → IsGoing s → e.kind ≡ Started → steps_so_far s e.key ≡ [] → MayBegin s e.key
    → IsUnderWay (emits s e (e.key ∷ s.running))

-- a key that may begin and has no step yet may be skipped
abbrev pub Skips : Type 0
Skips =
    (s : UnitState) (e : Event)
    → IsGoing s → e.kind ≡ Skipped → steps_so_far s e.key ≡ [] → MayBegin s e.key
    → IsUnderWay (emits s e s.running)

-- a running key may report an entry or publish a file
abbrev pub Reports : Type 0
Reports =
    (s : UnitState) (e : Event)
    → IsGoing s → is_step e.kind ≡ false → e.kind ≢ Dynamic → IsOneOf e.key s.running
    → IsUnderWay (emits s e s.running)

-- a descriptor may be registered below a running key, and may begin then
abbrev pub Registers : Type 0
Registers =
    (s : UnitState) (e : Event) (d : Descriptor)
    → IsGoing s → e.kind ≡ Dynamic → e.payload ≡ Described d → MayBeRegistered s e.key d
    → IsUnderWay (emits s e s.running)
    × (steps_so_far (emits s e s.running) e.key ≡ [])
    × MayBegin (emits s e s.running) e.key

-- the innermost running key may finish
abbrev pub Finishes : Type 0
Finishes =
    (s : UnitState) (e : Event) (outer : List ℕ)
    → IsGoing s → s.running ≡ e.key ∷ outer → e.kind ≡ Finished
    → IsUnderWay (emits s e outer)

-- where no key runs, the unit has kept the lifecycle
abbrev pub Closes : Type 0
Closes =
    (s : UnitState)
    → IsGoing s → s.running ≡ [] → KeepsAlone s.frame s.unit s.worker s.events
