use Rattle.engine_testkit.proofs.SinkGrowth.{grew_trans}
use Rattle.engine_testkit.specs.Grown.{AnyEvent}
use Rattle.example_engine.proofs.by_hand.running.run_registered.Goals as goal

pub returns-in_err-start-clause-grew : goal.returns-in_err-start-clause-grew
returns-in_err-start-clause-grew g c = c.start.ensures.grew

pub returns-in_err-outcome-clause-grew : goal.returns-in_err-outcome-clause-grew
returns-in_err-outcome-clause-grew g c = c.start.ensures.grew

pub returns-clause-grew : goal.returns-clause-grew
returns-clause-grew g c = grew_trans AnyEvent _ _ _ c.start.ensures.grew c.finish.ensures.grew
