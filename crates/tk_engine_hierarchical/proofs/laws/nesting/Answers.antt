use Rattle.std.proofs.Common.{subst}
use Rattle.tk_record.specs.Record.{IsRecord}
use Rattle.std.specs.Prelude.{is_some}
use Rattle.tk_engine_hierarchical.specs.TreeRuns.{test_rules}
use Rattle.tk_engine_hierarchical.specs.StaticSteps.{FitsPlan}
use Rattle.tk_engine_hierarchical.proofs.Nested.{units_nest}
use Rattle.tk_engine_unit_events.proofs.Shaped.{kept_units}
use Rattle.tk_engine_hierarchical.proofs.TreeRuns.{run_by_shape}
use Rattle.tk_engine_hierarchical.proofs.laws.nesting.Goals as goal

pub returns : goal.returns
returns g c =
    let s = c.args.engine.now.shape in
    let rules = test_rules (is_some c.args.engine.now.clock)
    (g.T.Tests.may_end c.args.engine.now.tests)
    (g.T.Tests.may_run c.args.engine.now.tests) in
    let may_step = FitsPlan s.plan rules.may_end in
    let r = c.args.results.now.recorded in
    units_nest s may_step c.requires.0 r (kept_units s may_step c.shows_shape.ensures.around)
    (run_by_shape s rules c.requires.0 r c.requires.1)
    (subst IsRecord c.recorded.ensures c.shows_record.ensures)
