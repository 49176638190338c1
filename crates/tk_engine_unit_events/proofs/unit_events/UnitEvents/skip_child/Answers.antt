use Rattle.std.proofs.Common.{List, ap, refl, sym, subst, ◌∙◌}
use Rattle.std.proofs.lemmas.Result.{err_from_is_err_and}
use Rattle.tk_events.specs.declared.kinds.Kind.TheVariants.{Skipped}
use Rattle.tk_engine_execute.specs.Engines.{Extends}
use Rattle.tk_engine_unit_events.specs.Refusals.{child_start}
use Rattle.tk_engine_unit_events.specs.Running.{keys_of, with_id, with_ids}
use Rattle.tk_engine_unit_events.specs.Standing.{StandsAt}
use Rattle.tk_engine_unit_events.specs.UnitSteps.{UnitView, child_request, event}
use Rattle.tk_engine_unit_events.specs.declared.running_keys.RunningKey.{RunningKey}
use Rattle.tk_engine_unit_events.proofs.Registered.{registers, stands_registered, stands_skipped}
use Rattle.tk_engine_unit_events.proofs.UnitStates.{after_emit}
use Rattle.tk_engine_unit_events.proofs.Taken.{LeavesSame, is_noted, leaves_same}
use Rattle.tk_engine_unit_events.proofs.Taken.{left_registered, left_same, not_taken, runs_none}
use Rattle.tk_engine_unit_events.proofs.Taken.{unregistered, unsent}
use Rattle.tk_engine_unit_events.proofs.UnitSteps.{both_err, extends_child, extends_more}
use Rattle.tk_engine_unit_events.proofs.UnitSteps.{grew_registered, grew_same, if_err, if_err_then}
use Rattle.tk_engine_unit_events.proofs.UnitSteps.{on_err, on_ok, same_view, skipped_child}
use Rattle.tk_engine_unit_events.proofs.UnitSteps.{stands_same}
use Rattle.tk_engine_unit_events.proofs.unit_events.UnitEvents.skip_child.Goals as goal

pub invariant_of-self : goal.invariant_of-self
invariant_of-self g c =
    let i = c.self.invariant in (
      c.register_child.ensures.same ∙ i.0,
      i.1,
      stands_same g.K.UnitRun.unit _ _ c.self.inside.progress _ c.in_err-key.ensures.err refl refl
          refl c.in_err-key.ensures.refused refl i.2,
      subst (λ s. Extends g.K.UnitRun.since s) (sym c.in_err-key.ensures.err) i.3,
    )

pub invariant_of-self-2 : goal.invariant_of-self-2
invariant_of-self-2 g c =
    let i = c.self.invariant in
    let r = registers c.self.inside.shape.now g.K.UnitRun.unit _ _ c.self.inside.progress
    c.register_child.new.registered.keys i.1 i.2 _ _ c.in_ok-innermost.ensures.top.1 _ _
    c.in_ok-key.ensures.registration refl _ c.in_ok-key.ensures.id c.in_ok-key.ensures.is_id
    c.in_ok-key.ensures.not_static c.in_ok-key.ensures.not_registered c.in_ok-key.ensures.noted
    in
    let since = extends_child _ (g.S.Sink.view c.self.inside.lease.sink.now)
    (g.S.Sink.view c.register_child.new.self.sink.now) _ c.in_ok-key.key
    c.in_ok-key.ensures.registration i.3 in (
      c.emit.ensures.same ∙ (c.register_child.ensures.same ∙ i.0),
      i.1,
      after_emit _ _ _ c.emit.result
          (λ s. StandsAt g.K.UnitRun.unit s
          (record c.self.inside.progress { registered = c.register_child.new.registered }))
          c.emit.ensures.ok c.emit.ensures.err
          (stands_registered _ _ _ _ _ _ r
          (record c.self.inside.progress { registered = c.register_child.new.registered }) refl
          refl refl refl refl)
          (stands_skipped _ _ _ _ _ _ r
          (record c.self.inside.progress { registered = c.register_child.new.registered }) refl
          refl refl refl _ refl refl refl),
      after_emit _ _ _ c.emit.result (λ s. Extends g.K.UnitRun.since s) c.emit.ensures.ok
          c.emit.ensures.err since (extends_more _ _ _ since),
    )

pub returns-clause-ok : goal.returns-clause-ok
returns-clause-ok g c =
    let sink = ap (λ (v : UnitView). v.sink) c.self.view_is in
    let runs = ap (λ (v : UnitView). v.running) c.self.view_is in
    on_ok c.emit.result c.emit.ensures.ok
    (λ e.
    let s = skipped_child _ _ _ _
    (with_ids g.K.UnitRun.unit.frame.table c.self.inside.progress.running.elements)
    (with_ids g.K.UnitRun.unit.frame.table c.in_ok-innermost.ensures.top.0)
    (with_id g.K.UnitRun.unit.frame.table c.in_ok-innermost.innermost.now) _ c.in_ok-key.key
    c.args.stamp c.args.reason (sym sink) (sym runs)
    (ap (with_ids g.K.UnitRun.unit.frame.table) c.in_ok-innermost.ensures.top.1) refl
    c.in_ok-key.ensures.registration e runs (ap (λ (v : UnitView). v.stamp) c.self.view_is)
    (ap (λ (v : UnitView). v.own_stamp) c.self.view_is) in
    (c.in_ok-innermost.innermost.now.key, s.0, s.1))

pub returns-clause-err : goal.returns-clause-err
returns-clause-err g c =
    let sink = ap (λ (v : UnitView). v.sink) c.self.view_is in
    let runs = ap (λ (v : UnitView). v.running) c.self.view_is in
    on_err c.emit.result c.emit.ensures.err
    (λ e. grew_registered _ _ _ _ _ c.in_ok-key.key
    (sym sink) c.in_ok-key.ensures.registration e runs
    (ap (λ (v : UnitView). v.stamp) c.self.view_is)
    (ap (λ (v : UnitView). v.own_stamp) c.self.view_is))

pub returns-in_err-key-clause-err : goal.returns-in_err-key-clause-err
returns-in_err-key-clause-err g c =
    if_err _ _ (λ _. grew_same _ _
    (c.in_err-key.ensures.err ∙ ap (λ (v : UnitView). v.sink) c.self.view_is)
    (ap (λ (v : UnitView). v.running) c.self.view_is)
    (ap (λ (v : UnitView). v.stamp) c.self.view_is)
    (ap (λ (v : UnitView). v.own_stamp) c.self.view_is))

pub returns-clause-free : goal.returns-clause-free
returns-clause-free g c = on_ok c.emit.result c.emit.ensures.ok (λ e t.
    not_taken c.self.inside.shape.now g.K.UnitRun.unit _ c.args.self.now
    c.self.inside.progress.running.elements _ c.in_ok-innermost.innermost.now
    c.self.inside.progress.registered.keys c.self.inside.progress.next c.args.child.now.segment
    c.self.invariant.1 c.self.invariant.2.running c.in_ok-innermost.ensures.top.1
    (sym (ap (λ (v : UnitView). v.sink) c.self.view_is))
    (sym (ap (λ (v : UnitView). v.running) c.self.view_is))
    _ c.in_ok-key.ensures.id c.in_ok-key.ensures.not_static c.in_ok-key.ensures.not_registered t)

pub returns-clause-taken : goal.returns-clause-taken
returns-clause-taken g c = if_err _ c.emit.result (λ why t. absurd (
    not_taken c.self.inside.shape.now g.K.UnitRun.unit _ c.args.self.now
    c.self.inside.progress.running.elements _ c.in_ok-innermost.innermost.now
    c.self.inside.progress.registered.keys c.self.inside.progress.next c.args.child.now.segment
    c.self.invariant.1 c.self.invariant.2.running c.in_ok-innermost.ensures.top.1
    (sym (ap (λ (v : UnitView). v.sink) c.self.view_is))
    (sym (ap (λ (v : UnitView). v.running) c.self.view_is))
    _ c.in_ok-key.ensures.id c.in_ok-key.ensures.not_static c.in_ok-key.ensures.not_registered t))

pub returns-in_err-key-clause-taken : goal.returns-in_err-key-clause-taken
returns-in_err-key-clause-taken g c =
    let p = err_from_is_err_and c.from_residual-in_err-key.result
    c.from_residual-in_err-key.ensures.1 in
    rw (p.1, p.2) (λ t. (
      c.in_err-key.ensures.taken
          (is_noted c.self.inside.shape.now g.K.UnitRun.unit _ c.args.self.now
          c.self.inside.progress.running.elements _ c.in_ok-innermost.innermost.now
          c.self.inside.progress.registered.keys c.self.inside.progress.next
          c.args.child.now.segment
          c.self.invariant.1 c.self.invariant.2.running c.in_ok-innermost.ensures.top.1
          (sym (ap (λ (v : UnitView). v.sink) c.self.view_is))
          (sym (ap (λ (v : UnitView). v.running) c.self.view_is)) t),
      same_view _ _ (c.in_err-key.ensures.err ∙ ap (λ (v : UnitView). v.sink) c.self.view_is)
          (ap (λ (v : UnitView). v.running) c.self.view_is)
          (ap (λ (v : UnitView). v.stamp) c.self.view_is)
          (ap (λ (v : UnitView). v.own_stamp) c.self.view_is),
    ))

pub returns-in_err-innermost-clause-cause : goal.returns-in_err-innermost-clause-cause
returns-in_err-innermost-clause-cause g c =
    let p = err_from_is_err_and c.from_residual.result c.from_residual.ensures.1 in
    let none = ap (λ (l : List RunningKey). keys_of (with_ids g.K.UnitRun.unit.frame.table l))
    c.in_err-innermost.ensures.none in
    rw (p.1, p.2) (runs_none g.K.UnitRun.unit c.args.self.now
    (child_start c.args.child.now c.args.registered
    (λ key. event Skipped key c.args.stamp c.args.reason)) _
    (sym (ap (λ (v : UnitView). v.running) c.self.view_is) ∙ none)
    c.in_err-innermost.ensures.order)

pub returns-in_err-key-clause-cause : goal.returns-in_err-key-clause-cause
returns-in_err-key-clause-cause g c =
    let p = err_from_is_err_and c.from_residual-in_err-key.result
    c.from_residual-in_err-key.ensures.1 in
    rw (p.1, p.2) (unregistered c.self.inside.shape.now g.K.UnitRun.unit _ c.args.self.now
    c.self.inside.progress.running.elements _ c.in_ok-innermost.innermost.now
    c.self.inside.progress.registered.keys c.self.inside.progress.next c.args.child.now.segment
    c.self.invariant.1 c.self.invariant.2.running c.in_ok-innermost.ensures.top.1
    (sym (ap (λ (v : UnitView). v.sink) c.self.view_is))
    (sym (ap (λ (v : UnitView). v.running) c.self.view_is))
    (child_start c.args.child.now c.args.registered
    (λ key. event Skipped key c.args.stamp c.args.reason)) refl c.self.invariant.2.noted _
    c.in_err-key.ensures.own c.in_err-key.ensures.sink c.in_err-key.ensures.no_text)

pub returns-clause-cause : goal.returns-clause-cause
returns-clause-cause g c =
    if_err_then _ _ c.emit.result c.emit.ensures.cause
    (λ why refused. unsent c.self.inside.shape.now g.K.UnitRun.unit _ c.args.self.now
    c.self.inside.progress.running.elements _ c.in_ok-innermost.innermost.now
    c.self.inside.progress.registered.keys c.self.inside.progress.next c.args.child.now.segment
    c.self.invariant.1 c.self.invariant.2.running c.in_ok-innermost.ensures.top.1
    (sym (ap (λ (v : UnitView). v.sink) c.self.view_is))
    (sym (ap (λ (v : UnitView). v.running) c.self.view_is))
    (child_start c.args.child.now c.args.registered
    (λ key. event Skipped key c.args.stamp c.args.reason)) _ c.in_ok-key.key why
    c.in_ok-key.ensures.registration refused)

pub returns-in_err-innermost-clause-refused : goal.returns-in_err-innermost-clause-refused
returns-in_err-innermost-clause-refused g c =
    let p = err_from_is_err_and c.from_residual.result c.from_residual.ensures.1 in
    rw (p.1, p.2) (left_same _ _ (child_start c.args.child.now c.args.registered
    (λ key. event Skipped key c.args.stamp c.args.reason)) _
    (subst LeavesSame (sym c.in_err-innermost.ensures.order) tt) refl)

pub returns-in_err-key-clause-refused : goal.returns-in_err-key-clause-refused
returns-in_err-key-clause-refused g c =
    let p = err_from_is_err_and c.from_residual-in_err-key.result
    c.from_residual-in_err-key.ensures.1 in
    rw (p.1, p.2) (left_same _ _ (child_start c.args.child.now c.args.registered
    (λ key. event Skipped key c.args.stamp c.args.reason)) _
    (leaves_same (g.S.Sink.view c.self.inside.lease.sink.now)
    (child_request c.args.child.now c.in_ok-innermost.innermost.now.key c.args.registered)
    (with_id c.self.inside.shape.now.plan.table c.in_ok-innermost.innermost.now).id _
    c.in_err-key.ensures.sink c.in_err-key.ensures.no_text)
    (same_view _ _ (c.in_err-key.ensures.err ∙ ap (λ (v : UnitView). v.sink) c.self.view_is)
    (ap (λ (v : UnitView). v.running) c.self.view_is)
    (ap (λ (v : UnitView). v.stamp) c.self.view_is)
    (ap (λ (v : UnitView). v.own_stamp) c.self.view_is)))

pub returns-clause-refused : goal.returns-clause-refused
returns-clause-refused g c =
    both_err _ _ c.emit.result c.emit.ensures.err c.emit.ensures.cause
    (λ why same refused.
    left_registered c.self.inside.shape.now g.K.UnitRun.unit _ c.args.self.now
    c.self.inside.progress.running.elements _ c.in_ok-innermost.innermost.now
    c.self.inside.progress.registered.keys c.self.inside.progress.next c.args.child.now.segment
    c.self.invariant.1 c.self.invariant.2.running c.in_ok-innermost.ensures.top.1
    (sym (ap (λ (v : UnitView). v.sink) c.self.view_is))
    (sym (ap (λ (v : UnitView). v.running) c.self.view_is))
    _ (child_start c.args.child.now c.args.registered
    (λ key. event Skipped key c.args.stamp c.args.reason))
    _ c.in_ok-key.key why c.in_ok-key.ensures.registration refused
    (same_view _ _ same
    (ap (λ (v : UnitView). v.running) c.self.view_is)
    (ap (λ (v : UnitView). v.stamp) c.self.view_is)
    (ap (λ (v : UnitView). v.own_stamp) c.self.view_is)))
