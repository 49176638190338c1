use Rattle.std.specs.Prelude.{is_some}
use Rattle.tk_engine_hierarchical.specs.TreeRuns.{test_rules}
use Rattle.tk_engine_unit_events.specs.Shapes.{frame}
use Rattle.tk_engine_hierarchical.specs.StaticSteps.{FitsPlan}
use Rattle.tk_engine_hierarchical.proofs.Recorded.{has_steps}
use Rattle.tk_engine_hierarchical.proofs.TreeRuns.{run_by_shape}
use Rattle.tk_engine_hierarchical.proofs.laws.steps.Goals as goal

pub returns : goal.returns
returns g c =
    let s = c.args.engine.now.shape in
    let rules = test_rules (is_some c.args.engine.now.clock)
    (g.T.Tests.may_end c.args.engine.now.tests)
    (g.T.Tests.may_run c.args.engine.now.tests) in
    let r = c.args.results.now.recorded in
    has_steps s (FitsPlan s.plan rules.may_end) (frame s).before (frame s).after
    (frame s).units c.requires.0 r (run_by_shape s rules c.requires.0 r c.requires.1)
