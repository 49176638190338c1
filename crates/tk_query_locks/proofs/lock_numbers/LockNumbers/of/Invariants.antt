use Rattle.tk_query_locks.proofs.NumberLemmas.{AreNoted}
use Rattle.tk_query_locks.proofs.lock_numbers.LockNumbers.of.Given as goal

abbrev pub invariant-loop-key : goal.invariant-loop-key
invariant-loop-key l = AreNoted l.«record» l.numbers l.key
