use Rattle.tk_query_locks.proofs.HolderLemmas.{AreTaken}
use Rattle.tk_query_locks.proofs.holders.Holders.start.Given as goal

abbrev pub invariant-loop-lock : goal.invariant-loop-lock
invariant-loop-lock l = AreTaken l.self l.second l.initial.running l.running l.lock-items l.lock-index
