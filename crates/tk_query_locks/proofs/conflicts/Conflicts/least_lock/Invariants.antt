use Rattle.std.proofs.Common.{ℕ, ◌<◌, get_or}
use Rattle.std.specs.Prelude.{IfSome}
use Rattle.tk_query_locks.specs.Conflicts.{ConflictOver, global_name}
use Rattle.tk_ids.specs.declared.locks.Lock.{Lock}
use Rattle.tk_query_locks.specs.steps.Conflicts.{IsAtMost}
use Rattle.tk_query_locks.proofs.conflicts.Conflicts.least_lock.Given as goal

abbrev pub invariant-loop-lock : goal.invariant-loop-lock
invariant-loop-lock l =
    IfSome l.least (λ name. ConflictOver l.self name.now l.a l.b)
    × (ConflictOver l.self global_name l.a l.b → IsAtMost l.least global_name)
    × ((i : ℕ) (d : Lock) → i < l.lock-index →
    ConflictOver l.self (get_or l.lock-items i d).name l.a l.b → IsAtMost l.least (get_or l.lock-items i d).name)
