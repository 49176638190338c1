-- What a unit does, step by step.
use Rattle.std.specs.Prelude.{◌≡◌, ℕ, Bool, true, false, List, [], ◌∷◌}
use Rattle.std.specs.Prelude.{Ok, None, Option, Some, slice_get}
use Rattle.tk_ids.specs.IdText.{SegmentView}
use Rattle.tk_ids.specs.declared.descriptors.DType.{DType}
use Rattle.tk_ids.specs.declared.descriptors.Descriptor.{Descriptor}
use Rattle.tk_events.specs.declared.events.Event.{Event}
use Rattle.tk_events.specs.declared.kinds.Kind.{Kind}
use Rattle.tk_events.specs.declared.kinds.Kind.TheVariants.{Dynamic, File, Finished}
use Rattle.tk_events.specs.declared.kinds.Kind.TheVariants.{Reporting, Skipped, Started}
use Rattle.tk_events.specs.declared.outcomes.Outcome.{Outcome}
use Rattle.tk_events.specs.declared.payloads.Payload.{Payload}
use Rattle.tk_queue_session.specs.Registering.{IsRegisteredAs, RegisterRequest}
use Rattle.tk_queue_session.specs.Senders.{SenderView, sends}
use Rattle.tk_engine_execute.specs.Engines.{Extends}
use Rattle.tk_engine_execute.specs.declared.engines.UnitFault.{UnitFault}

-- what contracts see of a unit that runs: its sink, the keys that run, innermost first, the stamp
-- of what a body publishes, where no clock gives it, and the one that the static test that runs has
-- set
pub record UnitView : Type 0 where
  pub sink : SenderView
  pub running : List ℕ
  pub stamp : Option ℕ
  pub own_stamp : Option ℕ

abbrev pub event : Kind → ℕ → ℕ → Payload → Event
event kind key stamp payload =
    record { kind = kind; key = key; stamp = stamp; payload = payload }

-- what is registered below a running key
pub record ChildView : Type 0 where
  pub segment : SegmentView
  pub name : List ℕ
  pub dtype : DType

abbrev pub child : DType → SegmentView → List ℕ → ChildView
child dtype segment name = record { segment = segment; name = name; dtype = dtype }

-- what is asked for, to register a child below a key at this stamp
abbrev pub child_request : ChildView → ℕ → ℕ → RegisterRequest
child_request c above stamp = record {
  parent = above;
  segment = c.segment;
  name = c.name;
  dtype = c.dtype;
  stamp = stamp;
}

-- the events of this kind are those of what a running key publishes
abbrev pub publishes : Kind → Bool
publishes Reporting = true
publishes File = true
publishes Dynamic = false
publishes Skipped = false
publishes Started = false
publishes Finished = false

-- the innermost running key published this event, and nothing else happened
pub record Published (old new : UnitView) (e : Event) : Type 0 where
  pub outer : List ℕ
  pub innermost : old.running ≡ e.key ∷ outer
  pub took : new.sink ≡ sends old.sink e
  pub running : new.running ≡ old.running
  pub stamp : new.stamp ≡ old.stamp
  pub own_stamp : new.own_stamp ≡ old.own_stamp

-- the innermost running key finished with this event, and nothing else happened
pub record HasFinished (old new : UnitView) (e : Event) : Type 0 where
  pub running : old.running ≡ e.key ∷ new.running
  pub took : new.sink ≡ sends old.sink e
  pub stamp : new.stamp ≡ old.stamp
  pub own_stamp : new.own_stamp ≡ old.own_stamp

-- what was asked for was registered below the innermost running key, then started with this event,
-- and nothing else happened
pub record HasStarted (old new : UnitView) (ask : RegisterRequest) (start : Event) : Type 0 where
  pub outer : List ℕ
  pub innermost : old.running ≡ ask.parent ∷ outer
  pub registered : SenderView
  pub registration : IsRegisteredAs old.sink registered ask (Ok start.key)
  pub took : new.sink ≡ sends registered start
  pub running : new.running ≡ start.key ∷ old.running
  pub stamp : new.stamp ≡ old.stamp
  pub own_stamp : new.own_stamp ≡ old.own_stamp

-- how a body may run: from which unit to which one, with which outcome
abbrev pub BodyRuns : Type 1
BodyRuns = UnitView → UnitView → Outcome → Type 0

-- how a body may fail: from which unit to which one, with which fault
abbrev pub BodyFails : Type 1
BodyFails = UnitView → UnitView → UnitFault → Type 0

-- what was asked for was registered below the innermost running key, then skipped with this event,
-- and nothing else happened
pub record HasSkipped (old new : UnitView) (ask : RegisterRequest) (skip : Event) : Type 0 where
  pub outer : List ℕ
  pub innermost : old.running ≡ ask.parent ∷ outer
  pub registered : SenderView
  pub registration : IsRegisteredAs old.sink registered ask (Ok skip.key)
  pub took : new.sink ≡ sends registered skip
  pub running : new.running ≡ old.running
  pub stamp : new.stamp ≡ old.stamp
  pub own_stamp : new.own_stamp ≡ old.own_stamp

-- the sink took events, the same keys run, and the stamps stay
pub record Grew (old new : UnitView) : Type 0 where
  pub more : Extends old.sink new.sink
  pub running : new.running ≡ old.running
  pub stamp : new.stamp ≡ old.stamp
  pub own_stamp : new.own_stamp ≡ old.own_stamp

-- a key that is the innermost running one before and after has the same keys around it
abbrev pub KeepsOuter : UnitView → UnitView → Type 0
KeepsOuter old new =
    (key : ℕ) (before after : List ℕ)
    → old.running ≡ key ∷ before → new.running ≡ key ∷ after → after ≡ before

-- the sink took this event, and nothing else happened
abbrev pub after_event : UnitView → Event → UnitView
after_event u e = record u { sink = sends u.sink e }

-- the sink took this event, and its key runs, as the innermost one
abbrev pub after_start : UnitView → Event → UnitView
after_start u e = record u { sink = sends u.sink e; running = e.key ∷ u.running }

-- the innermost running key is that of a static descriptor
pub record IsInnermost (table : List Descriptor) (running : List ℕ) (d : Descriptor) :
    Type 0 where
  pub key : ℕ
  pub outer : List ℕ
  pub runs : running ≡ key ∷ outer
  pub described : slice_get table key ≡ Some d

-- a unit of which no key runs
abbrev pub begun : SenderView → UnitView
begun sink = record { sink = sink; running = []; stamp = None; own_stamp = None }
