use Rattle.std.proofs.Common.{◌≡◌, ◌≤◌, ◌∙◌, ap, subst, sym, arith, tests, true, false}
use Rattle.tk_engine_unit_events.specs.Running.{with_ids}
use Rattle.tk_engine_unit_events.proofs.UnitStates.{at_none, ran_all}
use Rattle.tk_engine_unit_events.proofs.unit_events.UnitEvents.end.Goals as goal
use Rattle.tk_engine_unit_events.proofs.unit_events.UnitEvents.end.Goals.{then-rests, else-rests}

pub returns-clause-run : goal.returns-clause-run
returns-clause-run g c = λ done.
    let t = g.K.UnitRun.unit.frame.table in
    elim c.if-rests.branch [
      | then-rests w ↦
          (let over = sym w.result-is ∙ done in
          let past : c.self.inside.progress.end ≤ c.self.inside.progress.next = grind
          (arith, tests, over) in
          ran_all g.K.UnitRun.unit.frame g.K.UnitRun.unit.may_step g.K.UnitRun.unit.keys
          g.K.UnitRun.unit.start _ (with_ids t c.self.inside.progress.running.elements)
          c.self.inside.progress.registered.keys c.self.inside.progress.next
          c.self.invariant.2.running c.self.invariant.2.played
          (ap (with_ids t) (at_none c.top.result c.is_none-rests.result _ c.is_none-rests.ensures
          c.top.ensures.none w.if-rests.true))
          (subst (λ n. n ≤ c.self.inside.progress.next) c.self.invariant.2.end past))
      | else-rests w ↦ (let bad : false ≡ true = sym w.if-rests.false ∙ sym w.result-is ∙ done in
          cc)
    ]
