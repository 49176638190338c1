use Rattle.std.proofs.Common.{refl, rules}
use Rattle.std.specs.Prelude.{is_some}
use Rattle.tk_engine_hierarchical.specs.TreeRuns.{test_rules}
use Rattle.tk_engine_hierarchical.proofs.TreeRuns.{ran_unit}
use Rattle.tk_engine_hierarchical.proofs.engines.HierarchicalEngine.run.Goals as goal

pub returns-clause-ok : goal.returns-clause-ok
returns-clause-ok g c =
    ran_unit c.run_unit-lease.new.ran c.args.self.now.shape.plan c.args.self.now.shape
    (test_rules (is_some c.args.self.now.clock) (g.T.Tests.may_end c.args.self.now.tests)
    (g.T.Tests.may_run c.args.self.now.tests)) c.args.unit (g.S.Sink.view c.args.sink.now)
    (g.S.Sink.view c.sink-1.given.0)
    refl c.requires.table (search rules) (search rules)
