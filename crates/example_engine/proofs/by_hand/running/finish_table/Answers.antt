use Rattle.engine_testkit.proofs.SinkGrowth.{grew_trans}
use Rattle.engine_testkit.specs.Grown.{AnyEvent}
use Rattle.example_engine.proofs.by_hand.running.finish_table.Goals as goal

pub returns-in_err-report_number-clause-grew : goal.returns-in_err-report_number-clause-grew
returns-in_err-report_number-clause-grew g c = c.report_number.ensures.grew

pub returns-in_err-publish_log-clause-grew : goal.returns-in_err-publish_log-clause-grew
returns-in_err-publish_log-clause-grew g c = grew_trans AnyEvent _ _ _ c.report_number.ensures.grew c.publish_log.ensures.grew

pub returns-clause-grew : goal.returns-clause-grew
returns-clause-grew g c =
    let published = grew_trans AnyEvent _ _ _ c.report_number.ensures.grew c.publish_log.ensures.grew in
    grew_trans AnyEvent _ _ _ published c.finish.ensures.grew
