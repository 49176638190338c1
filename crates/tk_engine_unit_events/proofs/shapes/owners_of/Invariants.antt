use Rattle.tk_engine_unit_events.proofs.UnitsOfKeys.{OwnedSoFar}
use Rattle.tk_engine_unit_events.proofs.shapes.owners_of.Given as goal

abbrev pub invariant-loop-unit : goal.invariant-loop-unit
invariant-loop-unit l = OwnedSoFar l.plan l.unit l.owners.items
