use Rattle.tk_query_lifecycle.proofs.StateLemmas.{NoneRuns}
use Rattle.tk_query_lifecycle.proofs.key_states.Row.first_running.Given as goal

abbrev pub invariant-loop-index : goal.invariant-loop-index
invariant-loop-index l = NoneRuns l.state-items l.index
