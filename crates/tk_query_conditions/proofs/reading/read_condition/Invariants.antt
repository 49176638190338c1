use Rattle.tk_query_conditions.specs.steps.Reader.{state_of}
use Rattle.tk_query_conditions.proofs.ReaderLemmas.{IsRead}
use Rattle.tk_query_conditions.proofs.reading.read_condition.Given as goal

abbrev pub invariant-loop-at : goal.invariant-loop-at
invariant-loop-at l = IsRead l.bytes l.at (state_of l.reader)
