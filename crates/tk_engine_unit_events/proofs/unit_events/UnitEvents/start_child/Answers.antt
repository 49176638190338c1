use Rattle.std.proofs.Common.{List, ◌∷◌, Some, ap, refl, sym, subst, ◌∙◌}
use Rattle.std.proofs.lemmas.Result.{err_from_is_err_and}
use Rattle.tk_events.specs.declared.kinds.Kind.TheVariants.{Started}
use Rattle.tk_events.specs.declared.payloads.Payload.TheVariants.{Nothing}
use Rattle.tk_engine_execute.specs.Engines.{Extends}
use Rattle.tk_engine_unit_events.specs.Refusals.{child_start}
use Rattle.tk_engine_unit_events.specs.Running.{keys_of, with_id, with_ids}
use Rattle.tk_engine_unit_events.specs.UnitSteps.{UnitView, child_request, event}
use Rattle.tk_engine_unit_events.specs.declared.running_keys.RunningKey.{RunningKey}
use Rattle.tk_engine_unit_events.proofs.Registered.{has_registered, registers, stands_registered}
use Rattle.tk_engine_unit_events.proofs.Registered.{stands_started}
use Rattle.tk_engine_unit_events.proofs.Taken.{LeavesSame, is_noted, leaves_same}
use Rattle.tk_engine_unit_events.proofs.Taken.{left_registered, left_same, not_taken, runs_none}
use Rattle.tk_engine_unit_events.proofs.Taken.{unregistered, unsent}
use Rattle.tk_engine_unit_events.proofs.UnitSteps.{extends_child, extends_more, if_err}
use Rattle.tk_engine_unit_events.proofs.UnitSteps.{grew_registered, grew_same, same_view, stands_at}
use Rattle.tk_engine_unit_events.proofs.UnitSteps.{stands_same, started_child}
use Rattle.tk_engine_unit_events.proofs.unit_events.UnitEvents.start_child.Goals as goal

pub invariant_of-self-in_err-key : goal.invariant_of-self-in_err-key
invariant_of-self-in_err-key g c =
    let i = c.self.invariant in (
      c.register_child.ensures.same ∙ i.0,
      i.1,
      stands_same g.K.UnitRun.unit _ _ c.self.inside.progress _ c.in_err-key.ensures.err refl refl
          c.reserve.ensures.same c.in_err-key.ensures.refused refl i.2,
      subst (λ s. Extends g.K.UnitRun.since s) (sym c.in_err-key.ensures.err) i.3,
    )

pub invariant_of-self-in_err-emit : goal.invariant_of-self-in_err-emit
invariant_of-self-in_err-emit g c =
    let i = c.self.invariant in
    let r = registers c.self.inside.shape.now g.K.UnitRun.unit _ _ c.self.inside.progress
    c.register_child.new.registered.keys i.1 i.2 _ _
    (sym c.reserve.ensures.same ∙ c.in_ok-innermost.ensures.top.1) _ _
    c.in_ok-key.ensures.registration refl _ c.in_ok-key.ensures.id c.in_ok-key.ensures.is_id
    c.in_ok-key.ensures.not_static c.in_ok-key.ensures.not_registered c.in_ok-key.ensures.noted
    in (
      c.emit.ensures.same ∙ (c.register_child.ensures.same ∙ i.0),
      i.1,
      stands_at g.K.UnitRun.unit _ _
          (record c.self.inside.progress
          { running = c.reserve.new.self; registered = c.register_child.new.registered })
          c.in_err-emit.ensures.err
          (stands_registered _ _ _ _ _ _ r
          (record c.self.inside.progress
          { running = c.reserve.new.self; registered = c.register_child.new.registered }) refl
          refl refl refl c.reserve.ensures.same),
      subst (λ s. Extends g.K.UnitRun.since s) (sym c.in_err-emit.ensures.err)
          (extends_child _ (g.S.Sink.view c.self.inside.lease.sink.now)
          (g.S.Sink.view c.register_child.new.self.sink.now) _ c.in_ok-key.key
          c.in_ok-key.ensures.registration i.3),
    )

pub invariant_of-self-2 : goal.invariant_of-self-2
invariant_of-self-2 g c =
    let i = c.self.invariant in
    let r = registers c.self.inside.shape.now g.K.UnitRun.unit _ _ c.self.inside.progress
    c.register_child.new.registered.keys i.1 i.2 _ _
    (sym c.reserve.ensures.same ∙ c.in_ok-innermost.ensures.top.1) _ _
    c.in_ok-key.ensures.registration refl _ c.in_ok-key.ensures.id c.in_ok-key.ensures.is_id
    c.in_ok-key.ensures.not_static c.in_ok-key.ensures.not_registered c.in_ok-key.ensures.noted
    in (
      c.emit.ensures.same ∙ (c.register_child.ensures.same ∙ i.0),
      i.1,
      stands_at g.K.UnitRun.unit _ _
          (record c.self.inside.progress
          { running = c.push_reserved.new.self; registered = c.register_child.new.registered })
          c.in_ok-emit.ensures.ok
          (stands_started _ _ _ _ _ _ r
          (record c.self.inside.progress
          { running = c.push_reserved.new.self; registered = c.register_child.new.registered })
          refl refl refl refl _ refl _ refl refl refl
          (c.push_reserved.ensures
          ∙ ap (λ (l : List RunningKey). record
          { key = c.in_ok-key.key; dynamic_id = Some c.in_ok-key.id } ∷ l)
          c.reserve.ensures.same)),
      subst (λ s. Extends g.K.UnitRun.since s) (sym c.in_ok-emit.ensures.ok)
          (extends_more _ _ _ (extends_child _ (g.S.Sink.view c.self.inside.lease.sink.now)
          (g.S.Sink.view c.register_child.new.self.sink.now) _ c.in_ok-key.key
          c.in_ok-key.ensures.registration i.3)),
    )

pub returns-clause-started : goal.returns-clause-started
returns-clause-started g c =
    let t = g.K.UnitRun.unit.frame.table in
    let sink = ap (λ (v : UnitView). v.sink) c.self.view_is in
    let runs = ap (λ (v : UnitView). v.running) c.self.view_is in (
      c.in_ok-innermost.innermost.now.key,
      started_child _ _ _ _ (with_ids t c.self.inside.progress.running.elements)
          (with_ids t c.in_ok-innermost.ensures.top.0)
          (with_id t c.in_ok-innermost.innermost.now) _ c.in_ok-key.key c.args.stamp (sym sink)
          (sym runs)
          (ap (with_ids t) (sym c.reserve.ensures.same ∙ c.in_ok-innermost.ensures.top.1)) refl
          c.in_ok-key.ensures.registration c.in_ok-emit.ensures.ok
          (ap (λ (l : List RunningKey). keys_of (with_ids t l))
          (c.push_reserved.ensures
          ∙ ap (λ (l : List RunningKey). record
          { key = c.in_ok-key.key; dynamic_id = Some c.in_ok-key.id } ∷ l)
          c.reserve.ensures.same)) (ap (λ (v : UnitView). v.stamp) c.self.view_is)
          (ap (λ (v : UnitView). v.own_stamp) c.self.view_is),
    )

pub returns-clause-dynamic : goal.returns-clause-dynamic
returns-clause-dynamic g c =
    let i = c.self.invariant in
    let r = registers c.self.inside.shape.now g.K.UnitRun.unit _ _ c.self.inside.progress
    c.register_child.new.registered.keys i.1 i.2 _ _
    (sym c.reserve.ensures.same ∙ c.in_ok-innermost.ensures.top.1) _ _
    c.in_ok-key.ensures.registration refl _ c.in_ok-key.ensures.id c.in_ok-key.ensures.is_id
    c.in_ok-key.ensures.not_static c.in_ok-key.ensures.not_registered c.in_ok-key.ensures.noted
    in
    (has_registered _ _ _ _ _ _ r).registration.dynamic

pub returns-clause-free : goal.returns-clause-free
returns-clause-free g c = λ t.
    not_taken c.self.inside.shape.now g.K.UnitRun.unit _ c.args.self.now
    c.self.inside.progress.running.elements _ c.in_ok-innermost.innermost.now
    c.self.inside.progress.registered.keys c.self.inside.progress.next c.args.child.now.segment
    c.self.invariant.1 c.self.invariant.2.running
    (sym c.reserve.ensures.same ∙ c.in_ok-innermost.ensures.top.1)
    (sym (ap (λ (v : UnitView). v.sink) c.self.view_is))
    (sym (ap (λ (v : UnitView). v.running) c.self.view_is))
    _ c.in_ok-key.ensures.id c.in_ok-key.ensures.not_static c.in_ok-key.ensures.not_registered t

pub returns-in_err-reserve-clause-err : goal.returns-in_err-reserve-clause-err
returns-in_err-reserve-clause-err g c =
    if_err _ _ (λ _. grew_same _ _ (ap (λ (v : UnitView). v.sink) c.self.view_is)
    (ap (λ (l : List RunningKey). keys_of (with_ids g.K.UnitRun.unit.frame.table l))
    c.reserve.ensures.same ∙ ap (λ (v : UnitView). v.running) c.self.view_is)
    (ap (λ (v : UnitView). v.stamp) c.self.view_is)
    (ap (λ (v : UnitView). v.own_stamp) c.self.view_is))

pub returns-in_err-innermost-clause-err : goal.returns-in_err-innermost-clause-err
returns-in_err-innermost-clause-err g c =
    if_err _ _ (λ _. grew_same _ _ (ap (λ (v : UnitView). v.sink) c.self.view_is)
    (ap (λ (l : List RunningKey). keys_of (with_ids g.K.UnitRun.unit.frame.table l))
    c.reserve.ensures.same ∙ ap (λ (v : UnitView). v.running) c.self.view_is)
    (ap (λ (v : UnitView). v.stamp) c.self.view_is)
    (ap (λ (v : UnitView). v.own_stamp) c.self.view_is))

pub returns-in_err-key-clause-err : goal.returns-in_err-key-clause-err
returns-in_err-key-clause-err g c =
    if_err _ _ (λ _. grew_same _ _
    (c.in_err-key.ensures.err ∙ ap (λ (v : UnitView). v.sink) c.self.view_is)
    (ap (λ (l : List RunningKey). keys_of (with_ids g.K.UnitRun.unit.frame.table l))
    c.reserve.ensures.same ∙ ap (λ (v : UnitView). v.running) c.self.view_is)
    (ap (λ (v : UnitView). v.stamp) c.self.view_is)
    (ap (λ (v : UnitView). v.own_stamp) c.self.view_is))

pub returns-in_err-emit-clause-err : goal.returns-in_err-emit-clause-err
returns-in_err-emit-clause-err g c =
    if_err _ _ (λ _. grew_registered _ _ _ _ _ c.in_ok-key.key
    (sym (ap (λ (v : UnitView). v.sink) c.self.view_is)) c.in_ok-key.ensures.registration
    c.in_err-emit.ensures.err
    (ap (λ (l : List RunningKey). keys_of (with_ids g.K.UnitRun.unit.frame.table l))
    c.reserve.ensures.same ∙ ap (λ (v : UnitView). v.running) c.self.view_is)
    (ap (λ (v : UnitView). v.stamp) c.self.view_is)
    (ap (λ (v : UnitView). v.own_stamp) c.self.view_is))

pub returns-in_err-key-clause-taken : goal.returns-in_err-key-clause-taken
returns-in_err-key-clause-taken g c =
    let p = err_from_is_err_and c.from_residual-in_err-key.result
    c.from_residual-in_err-key.ensures.1 in
    rw (p.1, p.2) (λ t. (
      c.in_err-key.ensures.taken
          (is_noted c.self.inside.shape.now g.K.UnitRun.unit _ c.args.self.now
          c.self.inside.progress.running.elements _ c.in_ok-innermost.innermost.now
          c.self.inside.progress.registered.keys c.self.inside.progress.next
          c.args.child.now.segment
          c.self.invariant.1 c.self.invariant.2.running
          (sym c.reserve.ensures.same ∙ c.in_ok-innermost.ensures.top.1)
          (sym (ap (λ (v : UnitView). v.sink) c.self.view_is))
          (sym (ap (λ (v : UnitView). v.running) c.self.view_is)) t),
      same_view _ _ (c.in_err-key.ensures.err ∙ ap (λ (v : UnitView). v.sink) c.self.view_is)
          (ap (λ (l : List RunningKey). keys_of (with_ids g.K.UnitRun.unit.frame.table l))
          c.reserve.ensures.same ∙ ap (λ (v : UnitView). v.running) c.self.view_is)
          (ap (λ (v : UnitView). v.stamp) c.self.view_is)
          (ap (λ (v : UnitView). v.own_stamp) c.self.view_is),
    ))

pub returns-in_err-emit-clause-taken : goal.returns-in_err-emit-clause-taken
returns-in_err-emit-clause-taken g c =
    let p = err_from_is_err_and c.from_residual-in_err-emit.result
    c.from_residual-in_err-emit.ensures.1 in
    rw (p.1, p.2) (λ t. absurd
    (not_taken c.self.inside.shape.now g.K.UnitRun.unit _ c.args.self.now
    c.self.inside.progress.running.elements _ c.in_ok-innermost.innermost.now
    c.self.inside.progress.registered.keys c.self.inside.progress.next c.args.child.now.segment
    c.self.invariant.1 c.self.invariant.2.running
    (sym c.reserve.ensures.same ∙ c.in_ok-innermost.ensures.top.1)
    (sym (ap (λ (v : UnitView). v.sink) c.self.view_is))
    (sym (ap (λ (v : UnitView). v.running) c.self.view_is))
    _ c.in_ok-key.ensures.id c.in_ok-key.ensures.not_static c.in_ok-key.ensures.not_registered t))

pub returns-in_err-innermost-clause-cause : goal.returns-in_err-innermost-clause-cause
returns-in_err-innermost-clause-cause g c =
    let p = err_from_is_err_and c.from_residual-in_err-innermost.result
    c.from_residual-in_err-innermost.ensures.1 in
    let none = ap (λ (l : List RunningKey). keys_of (with_ids g.K.UnitRun.unit.frame.table l))
    (sym c.reserve.ensures.same ∙ c.in_err-innermost.ensures.none) in
    rw (p.1, p.2) (runs_none g.K.UnitRun.unit c.args.self.now
    (child_start c.args.child.now c.args.registered
    (λ key. event Started key c.args.stamp Nothing)) _
    (sym (ap (λ (v : UnitView). v.running) c.self.view_is) ∙ none)
    c.in_err-innermost.ensures.order)

pub returns-in_err-key-clause-cause : goal.returns-in_err-key-clause-cause
returns-in_err-key-clause-cause g c =
    let p = err_from_is_err_and c.from_residual-in_err-key.result
    c.from_residual-in_err-key.ensures.1 in
    rw (p.1, p.2) (unregistered c.self.inside.shape.now g.K.UnitRun.unit _ c.args.self.now
    c.self.inside.progress.running.elements _ c.in_ok-innermost.innermost.now
    c.self.inside.progress.registered.keys c.self.inside.progress.next c.args.child.now.segment
    c.self.invariant.1 c.self.invariant.2.running
    (sym c.reserve.ensures.same ∙ c.in_ok-innermost.ensures.top.1)
    (sym (ap (λ (v : UnitView). v.sink) c.self.view_is))
    (sym (ap (λ (v : UnitView). v.running) c.self.view_is))
    (child_start c.args.child.now c.args.registered (λ key. event Started key c.args.stamp Nothing))
    refl c.self.invariant.2.noted _ c.in_err-key.ensures.own c.in_err-key.ensures.sink
    c.in_err-key.ensures.no_text)

pub returns-in_err-emit-clause-cause : goal.returns-in_err-emit-clause-cause
returns-in_err-emit-clause-cause g c =
    let p = err_from_is_err_and c.from_residual-in_err-emit.result
    c.from_residual-in_err-emit.ensures.1 in
    rw (p.1, p.2) (unsent c.self.inside.shape.now g.K.UnitRun.unit _ c.args.self.now
    c.self.inside.progress.running.elements _ c.in_ok-innermost.innermost.now
    c.self.inside.progress.registered.keys c.self.inside.progress.next c.args.child.now.segment
    c.self.invariant.1 c.self.invariant.2.running
    (sym c.reserve.ensures.same ∙ c.in_ok-innermost.ensures.top.1)
    (sym (ap (λ (v : UnitView). v.sink) c.self.view_is))
    (sym (ap (λ (v : UnitView). v.running) c.self.view_is))
    (child_start c.args.child.now c.args.registered (λ key. event Started key c.args.stamp Nothing))
    _ c.in_ok-key.key _ c.in_ok-key.ensures.registration c.in_err-emit.ensures.cause)

pub returns-in_err-reserve-clause-refused : goal.returns-in_err-reserve-clause-refused
returns-in_err-reserve-clause-refused g c =
    let p = err_from_is_err_and c.from_residual.result c.from_residual.ensures.1 in
    rw (p.1) (left_same _ _ (child_start c.args.child.now c.args.registered
    (λ key. event Started key c.args.stamp Nothing)) _
    (subst LeavesSame (sym p.2) tt)
    (same_view _ _ (ap (λ (v : UnitView). v.sink) c.self.view_is)
    (ap (λ (l : List RunningKey). keys_of (with_ids g.K.UnitRun.unit.frame.table l))
    c.reserve.ensures.same ∙ ap (λ (v : UnitView). v.running) c.self.view_is)
    (ap (λ (v : UnitView). v.stamp) c.self.view_is)
    (ap (λ (v : UnitView). v.own_stamp) c.self.view_is)))

pub returns-in_err-innermost-clause-refused : goal.returns-in_err-innermost-clause-refused
returns-in_err-innermost-clause-refused g c =
    let p = err_from_is_err_and c.from_residual-in_err-innermost.result
    c.from_residual-in_err-innermost.ensures.1 in
    rw (p.1) (left_same _ _ (child_start c.args.child.now c.args.registered
    (λ key. event Started key c.args.stamp Nothing)) _
    (subst LeavesSame (sym (p.2 ∙ c.in_err-innermost.ensures.order)) tt)
    (same_view _ _ (ap (λ (v : UnitView). v.sink) c.self.view_is)
    (ap (λ (l : List RunningKey). keys_of (with_ids g.K.UnitRun.unit.frame.table l))
    c.reserve.ensures.same ∙ ap (λ (v : UnitView). v.running) c.self.view_is)
    (ap (λ (v : UnitView). v.stamp) c.self.view_is)
    (ap (λ (v : UnitView). v.own_stamp) c.self.view_is)))

pub returns-in_err-key-clause-refused : goal.returns-in_err-key-clause-refused
returns-in_err-key-clause-refused g c =
    let p = err_from_is_err_and c.from_residual-in_err-key.result
    c.from_residual-in_err-key.ensures.1 in
    rw (p.1, p.2) (left_same _ _ (child_start c.args.child.now c.args.registered
    (λ key. event Started key c.args.stamp Nothing)) _
    (leaves_same (g.S.Sink.view c.self.inside.lease.sink.now)
    (child_request c.args.child.now c.in_ok-innermost.innermost.now.key c.args.registered)
    (with_id c.self.inside.shape.now.plan.table c.in_ok-innermost.innermost.now).id _
    c.in_err-key.ensures.sink c.in_err-key.ensures.no_text)
    (same_view _ _ (c.in_err-key.ensures.err ∙ ap (λ (v : UnitView). v.sink) c.self.view_is)
    (ap (λ (l : List RunningKey). keys_of (with_ids g.K.UnitRun.unit.frame.table l))
    c.reserve.ensures.same ∙ ap (λ (v : UnitView). v.running) c.self.view_is)
    (ap (λ (v : UnitView). v.stamp) c.self.view_is)
    (ap (λ (v : UnitView). v.own_stamp) c.self.view_is)))

pub returns-in_err-emit-clause-refused : goal.returns-in_err-emit-clause-refused
returns-in_err-emit-clause-refused g c =
    let p = err_from_is_err_and c.from_residual-in_err-emit.result
    c.from_residual-in_err-emit.ensures.1 in
    rw (p.1, p.2) (left_registered c.self.inside.shape.now g.K.UnitRun.unit _ c.args.self.now
    c.self.inside.progress.running.elements _ c.in_ok-innermost.innermost.now
    c.self.inside.progress.registered.keys c.self.inside.progress.next c.args.child.now.segment
    c.self.invariant.1 c.self.invariant.2.running
    (sym c.reserve.ensures.same ∙ c.in_ok-innermost.ensures.top.1)
    (sym (ap (λ (v : UnitView). v.sink) c.self.view_is))
    (sym (ap (λ (v : UnitView). v.running) c.self.view_is))
    _ (child_start c.args.child.now c.args.registered
    (λ key. event Started key c.args.stamp Nothing))
    _ c.in_ok-key.key _ c.in_ok-key.ensures.registration c.in_err-emit.ensures.cause
    (same_view _ _ c.in_err-emit.ensures.err
    (ap (λ (l : List RunningKey). keys_of (with_ids g.K.UnitRun.unit.frame.table l))
    c.reserve.ensures.same ∙ ap (λ (v : UnitView). v.running) c.self.view_is)
    (ap (λ (v : UnitView). v.stamp) c.self.view_is)
    (ap (λ (v : UnitView). v.own_stamp) c.self.view_is)))
