use Rattle.tk_engine_hierarchical.proofs.Recorded.{has_outcomes}
use Rattle.tk_engine_hierarchical.proofs.laws.outcomes.Goals as goal

pub returns : goal.returns
returns g c =
    has_outcomes c.args.engine.now.shape.plan
    (g.T.Tests.may_end c.args.engine.now.tests) c.args.results.now.recorded c.requires.1.over
    c.steps.ensures
