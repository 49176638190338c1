use Rattle.std.proofs.Common.{◌≡◌, ◌<◌, ℕ, drop}
use Rattle.tk_plan.specs.LockNeeds.{over, lock_asks}
use Rattle.tk_plan.specs.steps.{access_of_masks}
use Rattle.tk_plan.proofs.units.needs.NeedMasks.mark_locks.Given as goal

abbrev pub invariant-loop-lock : goal.invariant-loop-lock
invariant-loop-lock l = (r : ℕ) → r < 16 → over (access_of_masks l.self r) (lock_asks l.keys (drop l.lock-index l.locks) r) ≡ over (access_of_masks l.initial.self r) (lock_asks l.keys l.locks r)
