use Rattle.tk_engine_unit_events.proofs.UnitSteps.{if_err_then, on_ok}
use Rattle.tk_engine_hierarchical.proofs.reporters.Reporter.report_pairs.Goals as goal

pub returns-clause-ok : goal.returns-clause-ok
returns-clause-ok g c = on_ok c.publish.result c.publish.ensures.ok
    (λ p. (c.stamp-stamp.result, c.stamp-stamp.ensures, p))

pub returns-clause-cause : goal.returns-clause-cause
returns-clause-cause g c = if_err_then _ _ c.publish.result c.publish.ensures.cause
    (λ why cause. (c.stamp-stamp.result, c.stamp-stamp.ensures, cause))
