use Rattle.std.proofs.Common.{◌≡◌, ℕ, List, ◌++◌, take}
use Rattle.std.specs.List.{filter}
use Rattle.tk_ids.specs.Locks.{mode_of}
use Rattle.tk_plan.specs.DeclaredLocks.{has_name, isolation}
use Rattle.tk_plan.proofs.LocksByName.{asked_mode}
use Rattle.tk_plan.proofs.trees.nodes.Node.declared_locks.Given as goal

abbrev pub invariant-loop-lock : goal.invariant-loop-lock
invariant-loop-lock l = (name : List ℕ) → mode_of l.locks name ≡ asked_mode (isolation l.self.is_isolated ++ filter has_name (take l.lock-index l.lock-items)) name
