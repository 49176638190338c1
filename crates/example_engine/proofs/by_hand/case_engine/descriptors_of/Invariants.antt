use Rattle.std.proofs.Common.{◌≡◌, ◌+◌, ◌≤◌, length}
use Rattle.example_engine.proofs.by_hand.case_engine.descriptors_of.Given as goal

abbrev pub invariant-loop-one : goal.invariant-loop-one
invariant-loop-one l = (length l.table ≡ l.one-index + 1) × (length l.table ≤ 65536)
