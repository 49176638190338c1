-- Why a unit takes no event, and has no child.
use Rattle.std.specs.Prelude.{◌≡◌, ◌⊎◌, ℕ, List, [], ◌∷◌, ◌++◌, Ok, Err, Some}
use Rattle.tk_ids.specs.IdText.{FitsLimits, SegmentView}
use Rattle.tk_ids.specs.declared.id_faults.IdFault.TheVariants.{TooLong}
use Rattle.tk_events.specs.declared.events.Event.{Event}
use Rattle.tk_query_lifecycle.specs.Lifecycle.{HasId}
use Rattle.tk_queue_session.specs.Registering.{IsRegisteredAs}
use Rattle.tk_queue_session.specs.Senders.{SenderView, record_of_sender, refusal_of}
use Rattle.tk_queue_session.specs.declared.sender_faults.RegisterFault.{RegisterFault}
use Rattle.tk_queue_session.specs.declared.sender_faults.RegisterFault.TheVariants.{Id}
use Rattle.tk_queue_session.specs.declared.sender_faults.SendFault.{SendFault}
use Rattle.tk_engine_execute.specs.Sinks.{IsSendCause}
use Rattle.tk_engine_execute.specs.declared.engines.TheConstants.{OUT_OF_ORDER, TWICE}
use Rattle.tk_engine_execute.specs.declared.engines.UnitFault.{UnitFault}
use Rattle.tk_engine_execute.specs.declared.engines.UnitFault.TheVariants.{Memory, Own, Sink, Text}
use Rattle.tk_engine_execute.specs.declared.sinks.SinkFault.TheVariants.{Register, Send}
use Rattle.tk_engine_unit_events.specs.Standing.{BegunUnit}
use Rattle.tk_engine_unit_events.specs.Taken.{IsTaken}
use Rattle.tk_engine_unit_events.specs.UnitSteps.{ChildView, UnitView, child_request}

-- the sink refused the event
abbrev pub IsEmitCause : SenderView → Event → UnitFault → Type 0
IsEmitCause s e (Sink why) = IsSendCause s e why
IsEmitCause s e Memory = ⊥
IsEmitCause s e (Own number) = ⊥
IsEmitCause s e (Text text) = ⊥

-- the key is the innermost running one
abbrev pub IsInnermostKey : List ℕ → ℕ → Type 0
IsInnermostKey running key = (outer : List ℕ) × (running ≡ key ∷ outer)

-- no key runs, or the sink refused the event of the innermost running key
abbrev pub IsPublishCause : UnitView → (ℕ → Event) → UnitFault → Type 0
IsPublishCause u event why =
    ((u.running ≡ []) × (why ≡ Own OUT_OF_ORDER))
    ⊎ ((key : ℕ) × IsInnermostKey u.running key × IsEmitCause u.sink (event key) why)

-- the static key isn't the one whose turn it is, or the sink refused the event
abbrev pub IsTurnCause : UnitView → Event → UnitFault → Type 0
IsTurnCause u e why = (why ≡ Own OUT_OF_ORDER) ⊎ IsEmitCause u.sink e why

-- a request for memory was refused, or the static key has no turn
abbrev pub IsStartCause : UnitView → Event → UnitFault → Type 0
IsStartCause u e why = (why ≡ Memory) ⊎ IsTurnCause u e why

-- the event's key isn't the innermost running one, or the sink refused the event
abbrev pub IsInnermostCause : UnitView → Event → UnitFault → Type 0
IsInnermostCause u e why =
    ((¬ IsInnermostKey u.running e.key) × (why ≡ Own OUT_OF_ORDER))
    ⊎ (IsInnermostKey u.running e.key × IsEmitCause u.sink e why)

-- what is asked for, to have a child: the child, the stamp of its registration, and its first event
-- by its key
pub record ChildStart : Type 0 where
  pub child : ChildView
  pub registered : ℕ
  pub first : ℕ → Event

abbrev pub child_start : ChildView → ℕ → (ℕ → Event) → ChildStart
child_start child registered first =
    record { child = child; registered = registered; first = first }

-- the innermost running key has a descriptor with this id
pub record HasInnermost (u : UnitView) (id : List SegmentView) : Type 0 where
  pub above : ℕ
  pub runs : IsInnermostKey u.running above
  pub its : HasId (record_of_sender u.sink) above id

-- no key runs; no descriptor has an empty id
abbrev pub RunsNone : UnitView → Type 0
RunsNone u = (id : List SegmentView) → HasInnermost u id → id ≡ []

-- a child of the innermost running key with this segment would have an id that is too long
abbrev pub IsTooLong : UnitView → SegmentView → Type 0
IsTooLong u segment =
    (id : List SegmentView) × HasInnermost u id × ¬ FitsLimits (id ++ segment ∷ [])

-- the sink refused to register the child below the innermost running key
abbrev pub IsUnregistered : UnitView → ChildStart → RegisterFault → Type 0
IsUnregistered u c why =
    (above : ℕ) × IsInnermostKey u.running above
    × IsRegisteredAs u.sink u.sink (child_request c.child above c.registered) (Err why)

-- the sink registered the child below the innermost running key, and refused its first event
pub record IsUnsent (u : UnitView) (c : ChildStart) (why : SendFault) : Type 0 where
  pub above : ℕ
  pub runs : IsInnermostKey u.running above
  pub key : ℕ
  pub registered : SenderView
  pub registration :
      IsRegisteredAs u.sink registered (child_request c.child above c.registered) (Ok key)
  pub refused : refusal_of registered (c.first key) ≡ Some why

-- Why a unit neither starts a child nor skips it: its id is taken, or no key runs; a request
-- for memory was refused; the id is too long, or the sink refused the registration or the event.
abbrev pub IsChildCause : BegunUnit → UnitView → ChildStart → UnitFault → Type 0
IsChildCause unit u c (Own number) =
    (IsTaken unit u c.child.segment × (number ≡ TWICE)) ⊎ (RunsNone u × (number ≡ OUT_OF_ORDER))
IsChildCause unit u c Memory = Unit {0}
IsChildCause unit u c (Sink (Register why)) =
    (IsTooLong u c.child.segment × (why ≡ Id TooLong)) ⊎ IsUnregistered u c why
IsChildCause unit u c (Sink (Send why)) = IsUnsent u c why
IsChildCause unit u c (Text text) = ⊥

-- What a refused child leaves: the unit as it was; or, where the sink registered the child and
-- refused its first event, the unit with the child registered.
abbrev pub HasRefused : UnitView → UnitView → ChildStart → UnitFault → Type 0
HasRefused old new c (Own number) = new ≡ old
HasRefused old new c Memory = new ≡ old
HasRefused old new c (Sink (Register why)) = new ≡ old
HasRefused old new c (Sink (Send why)) =
    (unsent : IsUnsent old c why) × (new ≡ record old { sink = unsent.registered })
HasRefused old new c (Text text) = ⊥
