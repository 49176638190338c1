use Rattle.std.proofs.Common.{◌≡◌, ℕ, ◌<◌, get_or}
use Rattle.tk_ids.specs.declared.locks.Lock.{Lock}
use Rattle.tk_query_locks.proofs.conflicts.holds.Given as goal

abbrev pub invariant-loop-lock : goal.invariant-loop-lock
invariant-loop-lock l = (i : ℕ) (d : Lock) → i < l.lock-index → ¬ ((get_or l.lock-items i d).name ≡ l.name)
