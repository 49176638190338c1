use Rattle.tk_engine_hierarchical.proofs.Reported.{fails_or_drops}
use Rattle.tk_engine_hierarchical.proofs.planned_units.run_test.Goals as goal

pub returns-clause-fail : goal.returns-clause-fail
returns-clause-fail g c =
    fails_or_drops (g.T.Tests.may_run c.args.tests.now c.args.key)
    (g.T.Tests.may_fail c.args.tests.now c.args.key) _ _ _ _ _
    c.end-events.ensures.events c.run-answer.ensures.run c.run-answer.ensures.fail
    c.end-events.ensures.fault
