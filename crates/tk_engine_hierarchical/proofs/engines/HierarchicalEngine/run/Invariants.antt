use Rattle.tk_engine_unit_events.specs.Shapes.{frame, keys_in}
use Rattle.tk_engine_hierarchical.specs.StaticSteps.{FitsPlan}
use Rattle.tk_engine_hierarchical.proofs.engines.HierarchicalEngine.run.Given as goal

abbrev pub ghosts-run_unit : goal.ghosts-run_unit
ghosts-run_unit g a = record {
  unit = record {
    frame = frame a.shape.now;
    keys = keys_in a.shape.now a.unit;
    may_step = λ e. FitsPlan a.shape.now.plan
        (λ key outcome. g.T.Tests.may_end a.tests.now key outcome) e;
    start = g.S.Sink.view a.lease.sink.now;
  };
  since = g.S.Sink.view a.lease.sink.now;
  name = a.lease.sink.ghost_name;
}
