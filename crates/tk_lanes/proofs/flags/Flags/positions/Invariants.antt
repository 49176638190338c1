use Rattle.std.proofs.Common.{◌-◌, length}
use Rattle.tk_lanes.proofs.Positions.{AreFound}
use Rattle.tk_lanes.proofs.flags.Flags.positions.Given as goal

abbrev pub invariant-positions : goal.invariant-positions
invariant-positions l = AreFound l.list.items l.self l.from

abbrev pub decreases-positions : goal.decreases-positions
decreases-positions l = length l.self - l.from
