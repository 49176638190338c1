use Rattle.std.proofs.Common.{◌≡◌, take}
use Rattle.tk_ids.proofs.locks.copy_locks.Given as goal

abbrev pub invariant-loop-lock : goal.invariant-loop-lock
invariant-loop-lock l = l.copied.items ≡ take l.lock-index l.locks
