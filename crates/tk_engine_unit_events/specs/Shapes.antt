-- What stands around the units of an engine.
use Rattle.std.specs.Prelude.{◌≡◌, ◌⊎◌, ◌<◌, ◌≤◌, ℕ, true, List, Option, Some, None}
use Rattle.std.specs.Prelude.{length, slice_get}
use Rattle.tk_events.specs.declared.events.Event.{Event}
use Rattle.tk_queue_session.specs.Emission.{entries_by}
use Rattle.tk_query_lifecycle.specs.Lifecycle.{runs}
use Rattle.tk_plan.specs.Cutting.{Piece, after_of, before_of, pieces_of, units_of}
use Rattle.tk_plan.specs.Planned.{Outline}
use Rattle.tk_plan.specs.Trees.{forest, number_of}
use Rattle.tk_run_laws.specs.Spines.{end_of}
use Rattle.tk_engine_lifecycle.specs.Units.{Frame}
use Rattle.tk_engine_unit_events.specs.Owners.{owner_of}
use Rattle.tk_engine_unit_events.specs.Units.{RunsUnit, UnitKeys}

-- a plan, and for each static key the unit to which it belongs, or the number of the units
pub record ShapeView : Type 0 where
  pub plan : Outline
  pub owners : List ℕ

abbrev pub count_units : ShapeView → ℕ
count_units s = length (units_of (forest s.plan.nodes))

-- the frame of an engine of this shape
abbrev pub frame : ShapeView → Frame
frame s = record {
  table = s.plan.table;
  before = before_of (forest s.plan.nodes);
  after = after_of (forest s.plan.nodes);
  units = count_units s;
  owner = owner_of s.plan.table s.owners (count_units s);
}

-- the first key of a unit's static nodes, and the end of their keys
abbrev pub first_in : Option Piece → ℕ
first_in None = 0
first_in (Some p) = number_of p.tree

abbrev pub end_in : Option Piece → ℕ
end_in None = 0
end_in (Some p) = end_of p.tree

-- the static keys of a unit
abbrev pub keys_in : ShapeView → ℕ → UnitKeys
keys_in s unit =
    let piece = slice_get (pieces_of (forest s.plan.nodes)) unit in
    record { unit = unit; first = first_in piece; end = end_in piece }

-- which events a unit of an engine of this shape may emit for a worker, where static keys may have
-- these steps
abbrev pub may_emit : ShapeView → (Event → Type 0) → ℕ → ℕ → ℕ → List Event → Type 0
may_emit s may_step unit worker earlier events =
    RunsUnit (frame s) may_step (keys_in s unit) (record { worker = worker; events = events })

-- the key is one of those of a unit
abbrev pub IsInUnit : ShapeView → ℕ → Type 0
IsInUnit s key =
    (unit : ℕ) × (unit < count_units s) × ((keys_in s unit).first ≤ key)
    × (key < (keys_in s unit).end)

-- each static key is one of a unit's, or runs before the units
abbrev pub HavePlaces : ShapeView → Type 0
HavePlaces s =
    (key : ℕ) → key < length s.plan.table
    → IsInUnit s key ⊎ (runs key (entries_by 0 (frame s).before) ≡ true)
