-- What a reporter emits.
use Rattle.std.specs.Prelude.{◌≡◌, ◌⊎◌, ℕ, ◌≤◌, List, [], IfErr, OnOk, Option, Result, Some, length}
use Rattle.std.specs.Borrow.{Bor}
use Rattle.tk_ids.specs.IdText.{SegmentView}
use Rattle.tk_ids.specs.declared.descriptors.DType.{DType}
use Rattle.tk_ids.specs.declared.id_faults.IdFault.TheVariants.{Empty}
use Rattle.tk_events.specs.declared.events.Event.{Event}
use Rattle.tk_events.specs.declared.kinds.Kind.TheVariants.{File, Finished, Reporting}
use Rattle.tk_events.specs.declared.kinds.Kind.TheVariants.{Skipped, Started}
use Rattle.tk_events.specs.declared.outcomes.Outcome.{Outcome}
use Rattle.tk_events.specs.declared.payloads.Payload.TheVariants as payloads
use Rattle.tk_queue_session.specs.Registering.{RegisterRequest}
use Rattle.tk_queue_session.specs.Senders.{SenderView, sends}
use Rattle.tk_engine_execute.specs.Engines.{Extends, fault_of_id}
use Rattle.tk_engine_execute.specs.declared.engines.UnitFault.{UnitFault}
use Rattle.tk_engine_execute.specs.declared.engines.UnitFault.TheVariants.{Memory}
use Rattle.tk_engine_unit_events.specs.UnitSteps.{BodyFails, BodyRuns, ChildView, Grew}
use Rattle.tk_engine_unit_events.specs.UnitSteps.{HasFinished, HasSkipped, HasStarted, Published}
use Rattle.tk_engine_unit_events.specs.UnitSteps.{UnitView, child, child_request, event}
use Rattle.tk_engine_unit_events.specs.Refusals.{IsChildCause, IsInnermostCause}
use Rattle.tk_engine_unit_events.specs.Refusals.{IsPublishCause, child_start}
use Rattle.tk_engine_unit_events.specs.Standing.{BegunUnit}
use Rattle.tk_engine_unit_events.specs.Taken.{IsTaken, RefusesTaken}
use Rattle.tk_engine_hierarchical.specs.Causes.{first_cause}

-- what contracts see of a reporter: its unit, and the cause of the first fault of a child that had
-- begun
pub record ReporterView : Type 0 where
  pub events : UnitView
  pub child_fault : Option UnitFault

abbrev pub reporter : UnitView → Option UnitFault → ReporterView
reporter events child_fault = record { events = events; child_fault = child_fault }

-- what a body promises: with which outcomes it may end, how it may run, and how it may fail
pub record BodyRules : Type 1 where
  pub may_end : Outcome → Type 0
  pub may_run : BodyRuns
  pub may_fail : BodyFails

abbrev pub body_rules : (Outcome → Type 0) → BodyRuns → BodyFails → BodyRules
body_rules may_end may_run may_fail =
    record { may_end = may_end; may_run = may_run; may_fail = may_fail }

-- the stamp is the one that the unit has; where it has none, the clock read it
abbrev pub IsStampOf : UnitView → ℕ → Type 0
IsStampOf u stamp = (set : ℕ) → u.stamp ≡ Some set → stamp ≡ set

-- this holds at the stamp that the unit has, or at one that the clock read
abbrev pub AtStamp : UnitView → (ℕ → Type 0) → Type 0
AtStamp u P = (stamp : ℕ) × IsStampOf u stamp × P stamp

-- what was asked for was registered below the innermost running key and started; then its body ran
-- once, and its finish with the body's outcome is the last event
pub record HasRunChild (may_run : BodyRuns) (old new : UnitView) (ask : RegisterRequest) :
    Type 0 where
  pub key : ℕ
  pub started : UnitView
  pub start : HasStarted old started ask (event Started key ask.stamp payloads.Nothing)
  pub before : UnitView
  pub later : Extends started.sink before.sink
  pub outcome : Outcome
  pub ran : may_run started before outcome
  pub finish : AtStamp before (λ stamp.
      HasFinished before new (event Finished key stamp (payloads.Outcome outcome)))

-- a child was registered below the innermost running key and started, ran its body, and finished
abbrev pub HasRunDynamic : BodyRuns → UnitView → UnitView → ChildView → Type 0
HasRunDynamic may_run old new c =
    AtStamp old (λ stamp. (above : ℕ) × HasRunChild may_run old new (child_request c above stamp))

-- what was asked for was registered below the innermost running key and started, and then the sink
-- took what its body emitted
pub record HasBegunChild (old new : UnitView) (ask : RegisterRequest) : Type 0 where
  pub key : ℕ
  pub started : UnitView
  pub start : HasStarted old started ask (event Started key ask.stamp payloads.Nothing)
  pub later : Extends started.sink new.sink

-- a child was registered below the innermost running key and started, and then the sink took what
-- its body emitted
abbrev pub HasBegunDynamic : UnitView → UnitView → ChildView → Type 0
HasBegunDynamic old new c =
    AtStamp old (λ stamp. (above : ℕ) × HasBegunChild old new (child_request c above stamp))

-- a body failed as it may; or it answered an outcome, and had dropped the fault of a child
abbrev pub FailsOrDrops : BodyRuns → BodyFails → BodyFails
FailsOrDrops may_run may_fail before after why =
    may_fail before after why ⊎ ((outcome : Outcome) × may_run before after outcome)

-- the body of the child with this key ran once, and the child's finish was refused
pub record IsUnfinished (may_run : BodyRuns) (started new : UnitView) (key : ℕ) (why : UnitFault) :
    Type 0 where
  pub outcome : Outcome
  pub ran : may_run started new outcome
  pub refused : AtStamp new (λ stamp.
      IsInnermostCause new (event Finished key stamp (payloads.Outcome outcome)) why)

-- a child began, and this is why it stopped: its body failed, or its finish was refused
pub record HasStoppedChild (may_run : BodyRuns) (may_fail : BodyFails) (old new : UnitView)
    (ask : RegisterRequest) (why : UnitFault) : Type 0 where
  pub key : ℕ
  pub started : UnitView
  pub start : HasStarted old started ask (event Started key ask.stamp payloads.Nothing)
  pub later : Extends started.sink new.sink
  pub stop : FailsOrDrops may_run may_fail started new why
      ⊎ IsUnfinished may_run started new key why

-- a child began, and this is why it stopped
abbrev pub HasStoppedDynamic :
    BodyRuns → BodyFails → UnitView → UnitView → ChildView → UnitFault → Type 0
HasStoppedDynamic may_run may_fail old new c why =
    AtStamp old (λ stamp.
    (above : ℕ) × HasStoppedChild may_run may_fail old new (child_request c above stamp) why)

-- A child wasn't started, and no other fault is kept; or it was started, its body or its finish was
-- refused, and the cause of the first such fault is kept.
abbrev pub HasFailedDynamic : ReporterView → ReporterView → ChildView → UnitFault → Type 0
HasFailedDynamic old new c why =
    (Grew old.events new.events × (new.child_fault ≡ old.child_fault))
    ⊎ (HasBegunDynamic old.events new.events c
    × (new.child_fault ≡ first_cause old.child_fault why))

-- the segment of this tag and this value
abbrev pub segment_view : Bor (List ℕ) × Bor (List ℕ) → SegmentView
segment_view segment = record { tag = segment.0.now; value = segment.1.now }

-- what is registered with a segment of this tag and this value
abbrev pub named_child : DType → Bor (List ℕ) × Bor (List ℕ) → List ℕ → ChildView
named_child dtype segment name = child dtype (segment_view segment) name

-- a segment's tag or value is empty, or a request for memory was refused
abbrev pub IsSegmentCause : SegmentView → UnitFault → Type 0
IsSegmentCause s why =
    (((s.tag ≡ []) ⊎ (s.value ≡ [])) × (why ≡ fault_of_id Empty)) ⊎ (why ≡ Memory)

-- why a body has no child, whose first event has a stamp and a key: its segment can't be made, or
-- the unit refuses it
abbrev pub IsDynamicCause : BegunUnit → UnitView → ChildView → (ℕ → ℕ → Event) → UnitFault → Type 0
IsDynamicCause unit u c first why =
    IsSegmentCause c.segment why
    ⊎ AtStamp u (λ stamp. IsChildCause unit u (child_start c stamp (first stamp)) why)

-- the unit refused the event, which has a stamp and a key
abbrev pub IsEventCause : UnitView → (ℕ → ℕ → Event) → UnitFault → Type 0
IsEventCause u event why = AtStamp u (λ stamp. IsPublishCause u (event stamp) why)

-- a request for memory for the texts was refused, or the unit refused the event
abbrev pub IsTextCause : UnitView → (ℕ → ℕ → Event) → UnitFault → Type 0
IsTextCause u event why = (why ≡ Memory) ⊎ IsEventCause u event why

-- the event, which has a stamp and a key, was published, and nothing else happened
abbrev pub PublishedNow : UnitView → UnitView → (ℕ → ℕ → Event) → Type 0
PublishedNow old new event = AtStamp old (λ stamp. (key : ℕ) × Published old new (event stamp key))

-- the entry of these pairs that a key publishes at a stamp
abbrev pub entry_at : List (List ℕ × List ℕ) → ℕ → ℕ → Event
entry_at pairs stamp key = event Reporting key stamp (payloads.Report pairs)

-- the file of this path that a key publishes at a stamp
abbrev pub file_at : List ℕ → ℕ → ℕ → Event
file_at path stamp key = event File key stamp (payloads.Path path)

-- the start of a key at a stamp
abbrev pub start_at : ℕ → ℕ → Event
start_at stamp key = event Started key stamp payloads.Nothing

-- the skip of a key for this reason at a stamp
abbrev pub skip_at : List ℕ → ℕ → ℕ → Event
skip_at reason stamp key = event Skipped key stamp (payloads.Reason reason)

-- a child was registered below the innermost running key and skipped, and nothing else happened
abbrev pub HasSkippedDynamic : UnitView → UnitView → ChildView → List ℕ → Type 0
HasSkippedDynamic old new c reason = AtStamp old (λ stamp. (above : ℕ) × (key : ℕ)
    × HasSkipped old new (child_request c above stamp) (skip_at reason stamp key))

-- The last that the sink took is the finish of a dynamic descriptor, whose key is past those of the
-- static ones, with an outcome that its body may have.
pub record EndsChild (statics : ℕ) (may_end : Outcome → Type 0) (new : UnitView) : Type 0 where
  pub key : ℕ
  pub dynamic : statics ≤ key
  pub before : SenderView
  pub outcome : Outcome
  pub its : may_end outcome
  pub took : AtStamp new (λ stamp.
      new.sink ≡ sends before (event Finished key stamp (payloads.Outcome outcome)))

-- What a call of a reporter leaves and answers that runs a body as a child of the innermost running
-- key.
pub record RunsDynamicChild (unit : BegunUnit) (body : BodyRules) (c : ChildView)
    (old new : ReporterView) (result : Result (Unit {0}) UnitFault) : Type 0 where
  pub ok : OnOk result (EndsChild (length unit.frame.table) body.may_end new.events)
  pub child : OnOk result (HasRunDynamic body.may_run old.events new.events c)
  pub kept_fault : OnOk result (new.child_fault ≡ old.child_fault)
  pub running : OnOk result (new.events.running ≡ old.events.running)
  -- no descriptor that the unit knows had the child's id
  pub free : OnOk result (¬ IsTaken unit old.events c.segment)
  pub err : IfErr result (HasFailedDynamic old new c)
  pub taken : IfErr result (RefusesTaken unit old.events new.events c.segment)
  -- the child wasn't started; or it was, and its body failed or its finish was refused
  pub cause : IfErr result (λ why. IsDynamicCause unit old.events c start_at why
      ⊎ HasStoppedDynamic body.may_run body.may_fail old.events new.events c why)
