use Rattle.tk_query_locks.proofs.NumberLemmas.{AreNumberedTo}
use Rattle.tk_query_locks.proofs.lock_numbers.LockNumbers.numbered.Given as goal

abbrev pub invariant-loop-lock : goal.invariant-loop-lock
invariant-loop-lock l = AreNumberedTo l.self l.items.items l.lock-items l.lock-index
