-- What private clauses and proofs alone name.
use Rattle.std.specs.Prelude.{◌≡◌, ◌≢◌, ◌⊎◌, ℕ, ◌<◌, true, List, [], ◌∷◌, ◌++◌, length, Some}
use Rattle.std.specs.Prelude.{slice_get}
use Rattle.std.specs.Borrow.{Bor}
use Rattle.tk_ids.specs.IdText.{FitsLimits, IsId, SegmentView, id_text, parent_of}
use Rattle.tk_ids.specs.Table.{HasId as TableHasId, ids_of}
use Rattle.tk_ids.specs.declared.descriptors.Descriptor.{Descriptor}
use Rattle.tk_ids.specs.declared.id_faults.IdFault.TheVariants.{TooLong}
use Rattle.tk_query_lifecycle.specs.Lifecycle.{runs}
use Rattle.tk_queue_session.specs.Emission.{entries_by}
use Rattle.tk_queue_session.specs.Registering.{RegisterRequest}
use Rattle.tk_queue_session.specs.Senders.{SenderView}
use Rattle.tk_queue_session.specs.declared.sender_faults.RegisterFault.TheVariants.{Id}
use Rattle.tk_engine_execute.specs.Sinks.{IsRegisterCause}
use Rattle.tk_engine_execute.specs.declared.engines.TheConstants.{OUT_OF_ORDER, TWICE}
use Rattle.tk_engine_execute.specs.declared.engines.UnitFault.{UnitFault}
use Rattle.tk_engine_execute.specs.declared.engines.UnitFault.TheVariants.{Memory, Own, Sink, Text}
use Rattle.tk_engine_execute.specs.declared.sinks.SinkFault.{SinkFault}
use Rattle.tk_engine_execute.specs.declared.sinks.SinkFault.TheVariants.{Register}
use Rattle.tk_engine_lifecycle.specs.UnderWay.{IsOneOf}
use Rattle.tk_engine_lifecycle.specs.Units.{Frame}
use Rattle.tk_engine_unit_events.specs.RegisteredIds.{is_registered}
use Rattle.tk_engine_unit_events.specs.Running.{keys_of, with_ids}
use Rattle.tk_engine_unit_events.specs.UnitSteps.{UnitView}
use Rattle.tk_engine_unit_events.specs.declared.unit_events.UnitProgress.{UnitProgress}

-- Where the id has a parent's id, a static key has it that is one of the running keys, or that runs
-- before the units.
abbrev pub HasParentAmong : Frame → List ℕ → List SegmentView → Type 0
HasParentAmong f running id =
    1 < length id
    → (above : ℕ) × (slice_get (ids_of f.table) above ≡ Some (parent_of id))
    × (IsOneOf above running ⊎ (runs above (entries_by 0 f.before) ≡ true))

-- where a key runs, the innermost one has the parent's id
abbrev pub HasInnermostParent : Frame → List ℕ → List SegmentView → Type 0
HasInnermostParent f [] id = Unit {0}
HasInnermostParent f (key ∷ outer) id =
    (1 < length id) × (slice_get (ids_of f.table) key ≡ Some (parent_of id))

-- a static key may start or be skipped: it belongs to the unit, and its parent runs, the innermost
-- of the unit's keys that run
pub record MayStart (f : Frame) (unit : ℕ) (running : List ℕ) (key : ℕ) : Type 0 where
  pub descriptor : Descriptor
  pub described : slice_get f.table key ≡ Some descriptor
  pub belongs : f.owner descriptor.id ≡ unit
  pub parent : HasParentAmong f running descriptor.id
  pub innermost : HasInnermostParent f running descriptor.id

-- a unit that stands there, with this sink
abbrev pub unit_view : List Descriptor → SenderView → UnitProgress → UnitView
unit_view table sink progress = record {
  sink = sink;
  running = keys_of (with_ids table progress.running.elements);
  stamp = progress.stamp;
  own_stamp = progress.own_stamp;
}

-- a child with this segment has the id of a static descriptor, or its id is one of those noted
pub record IsNotedChild (table : List Descriptor) (registered : List (List ℕ))
    (above : List SegmentView) (segment : SegmentView) : Type 0 where
  pub is_id : IsId above
  pub child_is_id : IsId (above ++ segment ∷ [])
  pub fits : FitsLimits (above ++ segment ∷ [])
  pub noted : TableHasId table (above ++ segment ∷ [])
      ⊎ (is_registered registered (id_text (above ++ segment ∷ [])) ≡ true)

-- the sink refused the registration
abbrev pub IsRegistrationCause : SenderView → RegisterRequest → UnitFault → Type 0
IsRegistrationCause s ask (Sink why) = IsRegisterCause s s ask why
IsRegistrationCause s ask Memory = ⊥
IsRegistrationCause s ask (Own number) = ⊥
IsRegistrationCause s ask (Text text) = ⊥

-- a fault of the unit's own: the child is noted, or the key above it has no id
abbrev pub IsOwnCause : Type 0 → List SegmentView → UnitFault → Type 0
IsOwnCause noted above why =
    (number : ℕ) → why ≡ Own number
    → (noted × (number ≡ TWICE)) ⊎ ((above ≡ []) × (number ≡ OUT_OF_ORDER))

-- a fault that isn't in the words of a body
abbrev pub IsNoText : UnitFault → Type 0
IsNoText why = (text : Bor (List ℕ)) → why ≢ Text text

-- a fault because the child's id is too long
abbrev pub IsLongCause : List SegmentView → SegmentView → SinkFault → Type 0
IsLongCause above segment fault =
    (¬ FitsLimits (above ++ segment ∷ [])) × (fault ≡ Register (Id TooLong))

-- a fault of the sink's, or because the child's id is too long
abbrev pub IsSinkCause : SenderView → RegisterRequest → List SegmentView → UnitFault → Type 0
IsSinkCause s ask above why =
    (fault : SinkFault) → why ≡ Sink fault
    → IsLongCause above ask.segment fault ⊎ IsRegisterCause s s ask fault
