use Rattle.std.proofs.Common.{subst}
use Rattle.tk_engine_execute.specs.Engines.{Extends, IsSameSender}
use Rattle.tk_engine_unit_events.specs.UnitSteps.{UnitView}
use Rattle.tk_engine_unit_events.proofs.UnitStates.{ran_same, ran_some}
use Rattle.tk_engine_unit_events.proofs.unit_events.UnitEvents.shows_sink.Goals as goal

pub returns-clause-same : goal.returns-clause-same
returns-clause-same g c =
    subst (λ (v : UnitView). IsSameSender g.K.UnitRun.unit.start v.sink) c.self.view_is
    (ran_same g.K.UnitRun.unit.frame g.K.UnitRun.unit.keys.unit g.K.UnitRun.unit.start _ _ _ _
    c.self.invariant.2.running)

pub returns-clause-some : goal.returns-clause-some
returns-clause-some g c =
    subst (λ (v : UnitView). Extends g.K.UnitRun.unit.start v.sink) c.self.view_is
    (ran_some g.K.UnitRun.unit.frame g.K.UnitRun.unit.keys.unit g.K.UnitRun.unit.start _ _ _ _
    c.self.invariant.2.running)
