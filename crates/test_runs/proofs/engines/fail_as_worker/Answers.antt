use Rattle.tk_engine_execute.specs.Grown.{AnyEvent}
use Rattle.tk_engine_execute.proofs.SinkGrowth.{grew_registered}
use Rattle.test_runs.proofs.engines.fail_as_worker.Goals as goal

pub returns-in-Ok : goal.returns-in-Ok
returns-in-Ok g c = grew_registered AnyEvent _ _ _ _ _ _ _ _ c.in-Ok.ensures.ok (λ d. tt)
