use Rattle.std.proofs.Common.{length}
use Rattle.tk_plan.proofs.units.needs.+key_index.Given as goal

abbrev pub decreases-key_index : goal.decreases-key_index
decreases-key_index l = length l.keys.now
