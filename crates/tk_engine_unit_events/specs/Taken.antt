-- Which child a unit may not register.
use Rattle.std.specs.Prelude.{◌≡◌, ◌⊎◌, ℕ, List, [], ◌∷◌, ◌++◌}
use Rattle.tk_ids.specs.IdText.{FitsLimits, IsId, SegmentView}
use Rattle.tk_queue_session.specs.Senders.{record_of_sender}
use Rattle.tk_query_lifecycle.specs.Lifecycle.{HasId}
use Rattle.tk_engine_execute.specs.declared.engines.TheConstants.{TWICE}
use Rattle.tk_engine_execute.specs.declared.engines.UnitFault.{UnitFault}
use Rattle.tk_engine_execute.specs.declared.engines.UnitFault.TheVariants.{Memory, Own}
use Rattle.tk_engine_unit_events.specs.Standing.{BegunUnit, IsKnown}
use Rattle.tk_engine_unit_events.specs.UnitSteps.{UnitView}

-- a child of the innermost running key with this segment has the id of a static descriptor, or of
-- one that the unit has registered
pub record IsTaken (unit : BegunUnit) (u : UnitView) (segment : SegmentView) : Type 0 where
  pub above : ℕ
  pub outer : List ℕ
  pub innermost : u.running ≡ above ∷ outer
  pub id : List SegmentView
  pub its : HasId (record_of_sender u.sink) above id
  pub is_id : IsId id
  pub child_is_id : IsId (id ++ segment ∷ [])
  pub fits : FitsLimits (id ++ segment ∷ [])
  pub known : IsKnown unit u.sink (id ++ segment ∷ [])

-- a fault with which such a child is refused: of its own, or a request for memory was refused
abbrev pub IsFaultOfTaken : UnitFault → Type 0
IsFaultOfTaken why = (why ≡ Own TWICE) ⊎ (why ≡ Memory)

-- where the id of such a child is taken, this fault refuses it, and nothing happened
abbrev pub RefusesTaken : BegunUnit → UnitView → UnitView → SegmentView → UnitFault → Type 0
RefusesTaken unit old new segment why =
    IsTaken unit old segment → IsFaultOfTaken why × (new ≡ old)
