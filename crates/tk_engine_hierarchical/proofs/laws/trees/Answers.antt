use Rattle.std.specs.Prelude.{is_some}
use Rattle.tk_engine_hierarchical.specs.TreeRuns.{test_rules}
use Rattle.tk_engine_hierarchical.proofs.TreeRuns.{ran_trees}
use Rattle.tk_engine_hierarchical.proofs.laws.trees.Goals as goal

pub returns : goal.returns
returns g c =
    ran_trees c.args.engine.now.shape
    (test_rules (is_some c.args.engine.now.clock)
    (g.T.Tests.may_end c.args.engine.now.tests)
    (g.T.Tests.may_run c.args.engine.now.tests)) c.requires.0 c.args.results.now.recorded
    c.requires.1
