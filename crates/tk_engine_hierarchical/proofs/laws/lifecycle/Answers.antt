use Rattle.std.specs.Prelude.{is_some}
use Rattle.tk_engine_hierarchical.specs.TreeRuns.{test_rules}
use Rattle.tk_engine_unit_events.specs.Shapes.{frame}
use Rattle.tk_engine_hierarchical.proofs.TreeRuns.{kept_trees}
use Rattle.tk_engine_hierarchical.proofs.laws.lifecycle.Goals as goal

pub returns : goal.returns
returns g c =
    let s = c.args.engine.now.shape in
    let rules = test_rules (is_some c.args.engine.now.clock)
    (g.T.Tests.may_end c.args.engine.now.tests)
    (g.T.Tests.may_run c.args.engine.now.tests) in
    c.runs_keep_lifecycle.ensures (frame s).owner (kept_trees s rules c.shows_shape.ensures.around)
