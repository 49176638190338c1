use Rattle.std.proofs.Common.{arith}
use Rattle.tk_engine_unit_events.proofs.UnitSteps.{if_err_then, on_ok}
use Rattle.tk_engine_hierarchical.proofs.reporters.Reporter.finish.Goals as goal

pub finish-requires : goal.finish-requires
finish-requires g c = λ low. absurd (omega (arith, low, c.requires))

pub returns-clause-ok : goal.returns-clause-ok
returns-clause-ok g c = on_ok c.finish.result c.finish.ensures.ok
    (λ f. (_, c.stamp-stamp.ensures, f))

pub returns-clause-cause : goal.returns-clause-cause
returns-clause-cause g c = if_err_then _ _ c.finish.result c.finish.ensures.cause
    (λ why cause. (_, c.stamp-stamp.ensures, cause))
