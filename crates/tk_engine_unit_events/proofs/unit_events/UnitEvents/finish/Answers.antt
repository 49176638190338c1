use Rattle.std.proofs.Common.{List, ap, inr, refl, sym, subst, ◌∙◌}
use Rattle.tk_engine_unit_events.specs.Events.{IsRunning}
use Rattle.std.proofs.lemmas.Result.{err_from_is_err_and}
use Rattle.tk_events.specs.declared.kinds.Kind.TheVariants.{Finished}
use Rattle.tk_events.specs.declared.payloads.Payload.TheVariants.{Outcome}
use Rattle.tk_engine_unit_events.specs.Refusals.{IsEmitCause, IsInnermostKey}
use Rattle.tk_engine_unit_events.specs.UnitSteps.{UnitView, event}
use Rattle.tk_engine_unit_events.specs.declared.running_keys.RunningKey.{RunningKey}
use Rattle.tk_engine_unit_events.specs.Running.{keys_of, with_id, with_ids}
use Rattle.tk_engine_unit_events.specs.Units.{HasPlayed}
use Rattle.tk_engine_unit_events.proofs.Played.{played_more}
use Rattle.tk_engine_unit_events.proofs.UnitStates.{popped, ran_finish}
use Rattle.tk_engine_execute.specs.Engines.{Extends}
use Rattle.tk_engine_unit_events.proofs.UnitSteps.{extends_more}
use Rattle.tk_engine_unit_events.proofs.Taken.{noted_after}
use Rattle.tk_engine_unit_events.proofs.unit_events.UnitEvents.finish.Goals as goal

pub invariant_of-self-2 : goal.invariant_of-self-2
invariant_of-self-2 g c =
    let i = c.self.invariant in
    let first = c.in_ok-innermost.innermost.now in
    let rest = c.in_ok-innermost.ensures.top.0 in
    let t = g.K.UnitRun.unit.frame.table in
    let left = popped c.self.inside.progress.running.elements c.pop-finished.new.self.elements rest
    first c.pop-finished.result c.in_ok-innermost.ensures.top.1 c.pop-finished.ensures.some
    c.pop-finished.ensures.none in (
      c.emit.ensures.same ∙ i.0,
      i.1,
      record {
        number = i.2.number;
        end = i.2.end;
        running = subst (λ s. IsRunning g.K.UnitRun.unit.frame g.K.UnitRun.unit.keys.unit
            g.K.UnitRun.unit.start s
            (with_ids t c.pop-finished.new.self.elements) c.self.inside.progress.registered.keys
            c.self.inside.progress.next) (sym c.in_ok-emit.ensures.ok)
            (ran_finish _ _ _ _ _ (with_ids t c.pop-finished.new.self.elements) _ _
            (with_id t first) _ i.2.running (ap (with_ids t) left) refl
            (sym c.if-innermost-key.false));
        played = subst (λ s. HasPlayed g.K.UnitRun.unit.frame.table g.K.UnitRun.unit.may_step
            g.K.UnitRun.unit.keys.first c.self.inside.progress.next g.K.UnitRun.unit.start s)
            (sym c.in_ok-emit.ensures.ok)
            (played_more g.K.UnitRun.unit.frame.table g.K.UnitRun.unit.may_step
            g.K.UnitRun.unit.keys.first g.K.UnitRun.unit.start _ c.self.inside.progress.next _
            i.2.played (λ low step. c.requires low));
        noted = noted_after g.K.UnitRun.unit _ _ c.self.inside.progress.registered.keys _
            c.in_ok-emit.ensures.ok i.2.noted;
      },
      subst (λ s. Extends g.K.UnitRun.since s) (sym c.in_ok-emit.ensures.ok)
          (extends_more _ _ _ i.3),
    )

pub returns-in_err-emit-clause-cause : goal.returns-in_err-emit-clause-cause
returns-in_err-emit-clause-cause g c =
    let p = err_from_is_err_and c.from_residual-in_err-emit.result
    c.from_residual-in_err-emit.ensures.1 in
    let t = g.K.UnitRun.unit.frame.table in
    let some = c.in_ok-innermost.ensures.top in
    let sink = ap (λ (v : UnitView). v.sink) c.self.view_is in
    let runs = sym (ap (λ (v : UnitView). v.running) c.self.view_is)
    ∙ ap (λ (l : List RunningKey). keys_of (with_ids t l)) some.1 in
    rw (p.1, p.2) (inr (
      subst (IsInnermostKey c.args.self.now.running) c.if-innermost-key.false
          (keys_of (with_ids t some.0), runs),
      subst (λ s. IsEmitCause s (event Finished c.args.key c.args.stamp
          (Outcome c.args.outcome)) c.in_err-emit.field-0.0) sink c.in_err-emit.ensures.cause,
    ))
