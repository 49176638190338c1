use Rattle.tk_query_locks.proofs.NumberLemmas.{AreListsTo}
use Rattle.tk_query_locks.proofs.lock_numbers.LockNumbers.lists.Given as goal

abbrev pub invariant-loop-key : goal.invariant-loop-key
invariant-loop-key l = AreListsTo l.«record» l.self l.lists.items l.key
