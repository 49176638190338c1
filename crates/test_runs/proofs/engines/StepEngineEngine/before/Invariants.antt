use Rattle.std.proofs.Common.{◌≡◌, replicate}
use Rattle.test_runs.proofs.Starts.{root_start}
use Rattle.test_runs.proofs.engines.StepEngineEngine.before.Given as goal

abbrev pub invariant-loop : goal.invariant-loop
invariant-loop l = l.events.items ≡ replicate l.counter root_start
