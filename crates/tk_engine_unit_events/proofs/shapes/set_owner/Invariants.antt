use Rattle.std.proofs.Common.{◌≤◌}
use Rattle.tk_engine_unit_events.proofs.UnitsOfKeys.{AreSet}
use Rattle.tk_engine_unit_events.proofs.shapes.set_owner.Given as goal

abbrev pub invariant-loop-key : goal.invariant-loop-key
invariant-loop-key l = AreSet l.fn.owners.items l.owners.items l.first l.key l.unit
    × (l.first ≤ l.key) × (l.key ≤ l.end)
