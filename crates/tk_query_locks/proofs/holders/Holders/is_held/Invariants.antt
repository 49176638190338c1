use Rattle.std.proofs.Common.{ℕ, ◌<◌, get_or}
use Rattle.tk_query_locks.specs.declared.lock_numbers.NumberedLock.{NumberedLock}
use Rattle.tk_query_locks.specs.steps.Holders.{LockMeetsNone}
use Rattle.tk_query_locks.proofs.holders.Holders.is_held.Given as goal

abbrev pub invariant-loop-lock : goal.invariant-loop-lock
invariant-loop-lock l =
    (i : ℕ) (d : NumberedLock) → i < l.lock-index → LockMeetsNone l.self l.running (get_or l.lock-items i d) l.second
