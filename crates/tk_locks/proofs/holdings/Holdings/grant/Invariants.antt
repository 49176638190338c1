use Rattle.std.proofs.Common.{ℕ, ◌<◌, Option, Some, get_or}
use Rattle.tk_locks.specs.NeedView.{NeedView}
use Rattle.tk_locks.specs.Holdings.{IsCompatible}
use Rattle.tk_locks.proofs.holdings.Holdings.grant.Given as goal

abbrev pub invariant-loop-held : goal.invariant-loop-held
invariant-loop-held l = (k : ℕ) (d : Option NeedView) → k < l.held-index → IsCompatible (Some l.need) (get_or l.held-items k d)
