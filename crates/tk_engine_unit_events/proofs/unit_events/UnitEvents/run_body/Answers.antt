use Rattle.std.proofs.Common.{ap, subst, ◌∙◌}
use Rattle.tk_engine_execute.specs.Engines.{Extends}
use Rattle.tk_engine_unit_events.specs.UnitSteps.{UnitView}
use Rattle.tk_engine_unit_events.proofs.Outer.{keeps_outer}
use Rattle.tk_engine_unit_events.proofs.UnitSteps.{extends_extends}
use Rattle.tk_engine_unit_events.proofs.unit_events.UnitEvents.run_body.Goals as goal

pub invariant_of-self : goal.invariant_of-self
invariant_of-self g c =
    let i = c.self.invariant in (
      c.run_body.ensures.same ∙ i.0,
      i.1,
      c.run_body.ensures.stands,
      extends_extends _ _ _ i.3 c.run_body.ensures.since,
    )

pub returns-clause-more : goal.returns-clause-more
returns-clause-more g c = subst
    (λ (v : UnitView). Extends v.sink (g.S.Sink.view c.run_body.new.self.sink.now)) c.self.view_is
    c.run_body.ensures.since

pub returns-clause-outer : goal.returns-clause-outer
returns-clause-outer g c = λ key before after e h.
    keeps_outer g.K.UnitRun.unit _ _ _ _ key before after c.self.invariant.2
    c.run_body.ensures.stands c.run_body.ensures.since
    (ap (λ (v : UnitView). v.running) c.self.view_is ∙ e) h
