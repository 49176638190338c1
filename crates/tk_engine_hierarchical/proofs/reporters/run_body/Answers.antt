use Rattle.tk_engine_hierarchical.proofs.Reported.{fails_or_drops}
use Rattle.tk_engine_hierarchical.proofs.reporters.run_body.Goals as goal

pub returns-clause-fail : goal.returns-clause-fail
returns-clause-fail g c =
    fails_or_drops (g.B.Body.may_run c.args.body.now) (g.B.Body.may_fail c.args.body.now) _ _ _ _ _
    c.end-events.ensures.events c.run-answer.ensures.run c.run-answer.ensures.fail
    c.end-events.ensures.fault
