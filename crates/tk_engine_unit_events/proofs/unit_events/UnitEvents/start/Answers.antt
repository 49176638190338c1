use Rattle.std.proofs.Common.{◌∷◌, ap, refl, sym, subst, ◌∙◌, arith}
use Rattle.tk_engine_unit_events.specs.Running.{keys_of, id_at, with_ids}
use Rattle.tk_engine_unit_events.proofs.Played.{played_start}
use Rattle.tk_engine_unit_events.proofs.UnitStates.{may_here, started, static_is}
use Rattle.tk_engine_execute.specs.Engines.{Extends}
use Rattle.tk_engine_unit_events.proofs.UnitSteps.{extends_more}
use Rattle.tk_engine_unit_events.proofs.Taken.{noted_after}
use Rattle.tk_engine_unit_events.proofs.unit_events.UnitEvents.start.Goals as goal

pub invariant_of-self-2 : goal.invariant_of-self-2
invariant_of-self-2 g c =
    let i = c.self.invariant in
    let f = g.K.UnitRun.unit.frame in
    let t = f.table in
    let p = c.self.inside.progress in
    let may = may_here c.self.inside.shape.now f p.unit g.K.UnitRun.unit.keys.unit c.args.key
    p.running.elements i.1 i.2.number (c.may_start.ensures c.if-not-may_start.false) in (
      c.emit.ensures.same ∙ i.0,
      i.1,
      record {
        number = i.2.number;
        end = i.2.end;
        running = started f g.K.UnitRun.unit.keys.unit g.K.UnitRun.unit.start _ _
            (with_ids t p.running.elements)
            (with_ids t c.push_reserved.new.self.elements) p.registered.keys p.next c.in-Some.next
            c.args.key (id_at t c.args.key) _
            c.in_ok-emit.ensures.ok
            (ap (with_ids t) c.push_reserved.ensures
            ∙ ap (λ l. record { key = c.args.key; id = id_at t c.args.key } ∷ with_ids t l)
            c.reserve.ensures.same)
            c.in-Some.ensures.1 refl refl i.2.running
            may (omega (arith, c.if-key-self.false))
            (static_is f g.K.UnitRun.unit.keys.unit c.args.key
            (keys_of (with_ids t p.running.elements)) may);
        played = played_start t g.K.UnitRun.unit.may_step g.K.UnitRun.unit.keys.first
            g.K.UnitRun.unit.start _ _ p.next c.in-Some.next c.args.key _ c.in_ok-emit.ensures.ok
            c.in-Some.ensures.1 c.if-key-self.false refl refl c.requires i.2.played;
        noted = noted_after g.K.UnitRun.unit _ _ p.registered.keys _ c.in_ok-emit.ensures.ok
            i.2.noted;
      },
      subst (λ s. Extends g.K.UnitRun.since s) (sym c.in_ok-emit.ensures.ok)
          (extends_more _ _ _ i.3),
    )
