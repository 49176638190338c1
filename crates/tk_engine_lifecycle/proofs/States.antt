-- The state of a unit, from its parts and back.
use Rattle.std.proofs.Common.{ℕ, List}
use Rattle.tk_events.specs.declared.events.Event.{Event}
use Rattle.tk_engine_lifecycle.specs.Units.{Frame}
use Rattle.tk_engine_lifecycle.specs.UnderWay.{IsUnderWay, MayBegin, MayBeRegistered, UnitState}
use Rattle.tk_ids.specs.declared.descriptors.Descriptor.{Descriptor}

abbrev pub state : Frame → ℕ → ℕ → List Event → List ℕ → UnitState
state f unit worker events running = record { frame = f; unit = unit; worker = worker; events = events; running = running }

abbrev pub again : UnitState → UnitState
again s = state s.frame s.unit s.worker s.events s.running

pub under_way_again : (s : UnitState) → IsUnderWay s → IsUnderWay (again s)
under_way_again s u = record { each = u.each; own = u.own; nested = u.nested; started = u.started; whole = u.whole }

pub begins_again : (s : UnitState) (key : ℕ) → MayBegin s key → MayBegin (again s) key
begins_again s key b = record { id = b.id; its = b.its; belongs = b.belongs; parent = b.parent }

pub registered_again : (s : UnitState) (key : ℕ) (d : Descriptor) → MayBeRegistered s key d → MayBeRegistered (again s) key d
registered_again s key d m = record {
  free = m.free;
  new = m.new;
  belongs = m.belongs;
  above = m.above;
  runs = m.runs;
  id = m.id;
  above_is = m.above_is;
  segment = m.segment;
  child = m.child;
}
