use Rattle.std.proofs.Common.{◌*◌}
use Rattle.tk_query_lifecycle.specs.steps.KeyStates.{by_key}
use Rattle.tk_query_lifecycle.proofs.StateLemmas.{NoneRuns}
use Rattle.tk_query_lifecycle.proofs.key_states.KeyStates.first_running.Given as goal

abbrev pub invariant-loop-number : goal.invariant-loop-number
invariant-loop-number l = NoneRuns (by_key l.row-items) (65536 * l.number)
