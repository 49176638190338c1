use Rattle.std.proofs.Common.{Some, ap, ◌∙◌}
use Rattle.tk_engine_execute.proofs.workers.run_unit.Goals as goal

pub run-done-requires-clause-holds : goal.run-done-requires-clause-holds
run-done-requires-clause-holds g c = c.acquire.ensures.held ∙ ap Some c.need.ensures
