use Rattle.std.proofs.Common.{◌≡◌, ◌*◌, ◌≤◌, eqb}
use Rattle.tk_lanes.proofs.Positions.{counted_to}
use Rattle.tk_lanes.proofs.flags.Flags.count_byte.Given as goal

abbrev pub invariant-loop-block : goal.invariant-loop-block
invariant-loop-block l = (l.total ≡ counted_to (λ x. eqb x l.value) l.self l.column (64 * l.block)) × (l.total ≤ 64 * l.block)
