use Rattle.std.proofs.Common.{inr}
use Rattle.tk_engine_unit_events.proofs.UnitSteps.{if_err_then, on_ok}
use Rattle.tk_engine_hierarchical.proofs.Reported.{named_skip, named_skip_cause}
use Rattle.tk_engine_hierarchical.proofs.reporters.Reporter.skip_test.Goals as goal

pub returns-clause-ok : goal.returns-clause-ok
returns-clause-ok g c =
    on_ok c.skip_child.result c.skip_child.ensures.ok
    (named_skip _ _ _ _ c.args.name.now _ _ _ c.stamp-stamp.ensures c.in_ok-segment.ensures.ok
    c.in_ok-copy.ensures)

pub returns-clause-cause : goal.returns-clause-cause
returns-clause-cause g c =
    if_err_then _ _ c.skip_child.result c.skip_child.ensures.cause
    (λ why cause. inr (named_skip_cause _ _ _ _ c.args.name.now _ _ _ why c.stamp-stamp.ensures
    c.in_ok-segment.ensures.ok c.in_ok-copy.ensures cause))
