use Rattle.tk_query_locks.proofs.NumberLemmas.{AreAdded}
use Rattle.tk_query_locks.proofs.lock_numbers.LockNumbers.add.Given as goal

abbrev pub invariant-loop-lock : goal.invariant-loop-lock
invariant-loop-lock l = AreAdded l.initial.self l.self l.lock-items l.lock-index
