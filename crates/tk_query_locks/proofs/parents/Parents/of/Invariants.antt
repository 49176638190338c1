use Rattle.tk_query_locks.proofs.ParentLemmas.{AreRegistered, AreStatics}
use Rattle.tk_query_locks.proofs.parents.Parents.of.Given as goal

abbrev pub invariant-loop-key : goal.invariant-loop-key
invariant-loop-key l = AreStatics l.«record» l.parents l.key

abbrev pub invariant-loop-position : goal.invariant-loop-position
invariant-loop-position l = AreRegistered l.«record» l.parents l.position
