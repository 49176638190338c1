use Rattle.std.proofs.Common.{◌<◌, ℕ}
use Rattle.tk_engine_unit_events.specs.Covered.{IsKeyBelow}
use Rattle.tk_engine_unit_events.proofs.unit_ids.end_below.Given as goal

abbrev pub invariant-loop-other : goal.invariant-loop-other
invariant-loop-other l = (k : ℕ) → l.key < k → k < l.other → IsKeyBelow l.table l.id k
