use Rattle.std.proofs.Common.{List, ap, inl, inr, refl, subst, sym, ◌∙◌}
use Rattle.std.proofs.lemmas.Result.{err_from_is_err_and}
use Rattle.tk_engine_unit_events.specs.Refusals.{IsEmitCause}
use Rattle.tk_engine_unit_events.specs.UnitSteps.{UnitView, event}
use Rattle.tk_engine_unit_events.specs.declared.running_keys.RunningKey.{RunningKey}
use Rattle.tk_engine_unit_events.proofs.UnitSteps.{extends_more, if_err_then, published, on_ok}
use Rattle.tk_engine_unit_events.specs.Events.{IsRunning}
use Rattle.tk_engine_unit_events.specs.Running.{keys_of, with_id, with_ids}
use Rattle.tk_engine_unit_events.specs.Standing.{AreNoted}
use Rattle.tk_engine_unit_events.specs.Units.{HasPlayed}
use Rattle.tk_engine_unit_events.proofs.Played.{played_plain, published_is_no_step}
use Rattle.tk_engine_unit_events.proofs.UnitStates.{after_emit, ran_published}
use Rattle.tk_engine_execute.specs.Engines.{Extends}
use Rattle.tk_engine_unit_events.proofs.Taken.{noted_after}
use Rattle.tk_engine_unit_events.proofs.unit_events.UnitEvents.publish.Goals as goal

pub invariant_of-self : goal.invariant_of-self
invariant_of-self g c =
    let i = c.self.invariant in
    let t = g.K.UnitRun.unit.frame.table in
    let some = c.in_ok-innermost.ensures.top in (
      c.emit.ensures.same ∙ i.0,
      i.1,
      record {
        number = i.2.number;
        end = i.2.end;
        running = after_emit _ _ _ c.emit.result
            (λ s. IsRunning g.K.UnitRun.unit.frame g.K.UnitRun.unit.keys.unit g.K.UnitRun.unit.start
            s (with_ids t c.self.inside.progress.running.elements)
            c.self.inside.progress.registered.keys c.self.inside.progress.next) c.emit.ensures.ok
            c.emit.ensures.err i.2.running
            (ran_published _ _ _ _ _ _ _ (with_id t c.in_ok-innermost.innermost.now) _ i.2.running
            (with_ids t some.0, ap (with_ids t) some.1) c.requires refl);
        played = after_emit _ _ _ c.emit.result
            (λ s. HasPlayed g.K.UnitRun.unit.frame.table g.K.UnitRun.unit.may_step
            g.K.UnitRun.unit.keys.first c.self.inside.progress.next g.K.UnitRun.unit.start s)
            c.emit.ensures.ok c.emit.ensures.err i.2.played
            (played_plain g.K.UnitRun.unit.frame.table g.K.UnitRun.unit.may_step
            g.K.UnitRun.unit.keys.first g.K.UnitRun.unit.start _ c.self.inside.progress.next _
            c.args.kind refl (published_is_no_step c.args.kind c.requires) i.2.played);
        noted = after_emit _ _ _ c.emit.result
            (λ s. AreNoted g.K.UnitRun.unit s c.self.inside.progress.registered.keys)
            c.emit.ensures.ok c.emit.ensures.err i.2.noted
            (noted_after g.K.UnitRun.unit _ _ c.self.inside.progress.registered.keys _ refl
            i.2.noted);
      },
      after_emit _ _ _ c.emit.result (λ s. Extends g.K.UnitRun.since s) c.emit.ensures.ok
          c.emit.ensures.err i.3 (extends_more _ _ _ i.3),
    )

pub returns-clause-ok : goal.returns-clause-ok
returns-clause-ok g c =
    let sink = ap (λ (v : UnitView). v.sink) c.self.view_is in
    let runs = ap (λ (v : UnitView). v.running) c.self.view_is in
    let t = g.K.UnitRun.unit.frame.table in
    let some = c.in_ok-innermost.ensures.top in
    on_ok c.emit.result c.emit.ensures.ok
    (λ e. published _ _ _ (with_ids t c.self.inside.progress.running.elements) (with_ids t some.0)
    (with_id t c.in_ok-innermost.innermost.now) c.args.kind c.args.stamp c.args.payload
    (sym sink) (sym runs) (ap (with_ids t) some.1) e runs
    (ap (λ (v : UnitView). v.stamp) c.self.view_is)
    (ap (λ (v : UnitView). v.own_stamp) c.self.view_is))

pub returns-clause-cause : goal.returns-clause-cause
returns-clause-cause g c =
    let sink = ap (λ (v : UnitView). v.sink) c.self.view_is in
    let runs = ap (λ (v : UnitView). v.running) c.self.view_is in
    let t = g.K.UnitRun.unit.frame.table in
    let some = c.in_ok-innermost.ensures.top in
    if_err_then _ _ c.emit.result c.emit.ensures.cause
    (λ why cause. inr (
      c.in_ok-innermost.innermost.now.key,
      (
        keys_of (with_ids t some.0),
        sym runs
            ∙ ap (λ (l : List RunningKey). keys_of (with_ids t l)) some.1,
      ),
      subst (λ s. IsEmitCause s
          (event c.args.kind c.in_ok-innermost.innermost.now.key c.args.stamp c.args.payload) why)
          sink cause,
    ))

pub returns-in_err-innermost-clause-cause : goal.returns-in_err-innermost-clause-cause
returns-in_err-innermost-clause-cause g c =
    let p = err_from_is_err_and c.from_residual.result c.from_residual.ensures.1 in
    let runs = ap (λ (v : UnitView). v.running) c.self.view_is in
    let t = g.K.UnitRun.unit.frame.table in
    rw (p.1, p.2) (inl (
      sym runs
          ∙ ap (λ (l : List RunningKey). keys_of (with_ids t l)) c.in_err-innermost.ensures.none,
      c.in_err-innermost.ensures.order,
    ))
