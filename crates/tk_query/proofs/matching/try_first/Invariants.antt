use Rattle.tk_query.proofs.AskedLemmas.{HasNone}
use Rattle.tk_query.proofs.matching.try_first.Given as goal

abbrev pub invariant-loop : goal.invariant-loop
invariant-loop l = HasNone l.events l.condition 0 l.low
