use Rattle.std.proofs.Common.{◌≡◌, ◌∙◌, inl, inr, refl, subst, sym}
use Rattle.std.proofs.lemmas.Result.{err_from_is_err_and}
use Rattle.std.specs.Prelude.{IfErr, IfOk, OnOk}
use Rattle.tk_engine_execute.specs.Engines.{Extends}
use Rattle.tk_engine_unit_events.specs.UnitSteps.{KeepsOuter, UnitView}
use Rattle.tk_engine_unit_events.proofs.UnitSteps.{grew_same}
use Rattle.tk_engine_hierarchical.specs.Causes.{first_cause}
use Rattle.tk_engine_hierarchical.specs.Reporting.{FailsOrDrops, reporter}
use Rattle.tk_engine_hierarchical.proofs.Reported.{child_of_copy, child_ran, child_refused}
use Rattle.tk_engine_hierarchical.proofs.Reported.{child_stopped, segment_refused}
use Rattle.tk_engine_hierarchical.proofs.reporters.Reporter.run_dynamic.Goals as goal

pub returns-in_err-segment : goal.returns-in_err-segment
returns-in_err-segment g c =
    let p = err_from_is_err_and c.from_residual.result c.from_residual.ensures.1 in
    let old = reporter c.args.self.now.events c.args.self.now.child_fault in
    let cause = c.in_err-segment.ensures.cause in
    rw (p.1, p.2) (record {
      runs = child_refused _ _ _ old old _ (grew_same _ _ refl refl refl refl) refl
          (segment_refused _ _ _ _ cause) (inl cause);
    })

pub returns-in_err-key : goal.returns-in_err-key
returns-in_err-key g c =
    let p = err_from_is_err_and c.from_residual-in_err-key.result
    c.from_residual-in_err-key.ensures.1 in
    let old = reporter c.args.self.now.events c.args.self.now.child_fault in
    let new = reporter c.start_child.new.self c.args.self.now.child_fault in
    rw (p.1, p.2) (record {
      runs = child_of_copy _ _ _ _ _ c.args.name.now old new _ _ c.in_ok-segment.ensures.ok refl
          (child_refused _ _ _ old new _ c.in_err-key.ensures.err refl c.in_err-key.ensures.taken
          (inr (c.stamp-stamp.result, c.stamp-stamp.ensures, c.in_err-key.ensures.cause)));
    })

pub returns-in_err-outcome : goal.returns-in_err-outcome
returns-in_err-outcome g c =
    let s = c.in_ok-key.ensures.started in
    let p = err_from_is_err_and c.from_residual-in_err-outcome.result
    c.from_residual-in_err-outcome.ensures.1 in
    let later = subst (λ (v : UnitView). Extends c.start_child.new.self.sink v.sink)
    (sym c.note.ensures.events) c.run_body-ended.ensures.more in
    let fails = subst (λ r. IfErr r (FailsOrDrops (g.B.Body.may_run c.args.body.now)
    (g.B.Body.may_fail c.args.body.now) c.start_child.new.self c.run_body-ended.new.self))
    (sym c.in_err-outcome.ensures.same) c.run_body-ended.ensures.cause in
    let here = subst (λ (v : UnitView). FailsOrDrops (g.B.Body.may_run c.args.body.now)
    (g.B.Body.may_fail c.args.body.now) c.start_child.new.self v c.in_err-outcome.field-0.0)
    (sym c.note.ensures.events) fails in
    let old = reporter c.args.self.now.events c.args.self.now.child_fault in
    let new = reporter c.note.new.self.events c.note.new.self.child_fault in
    rw (p.1, p.2) (record {
      runs = child_of_copy _ _ _ _ _ c.args.name.now old new _ _ c.in_ok-segment.ensures.ok refl
          (child_stopped _ _ _ old _ s.0 c.in_ok-key.key _ c.stamp-stamp.ensures s.1
          c.in_ok-key.ensures.free new _ c.in_err-outcome.ensures.err later (inl here));
    })

pub returns : goal.returns
returns g c =
    let s = c.in_ok-key.ensures.started in
    let old = reporter c.args.self.now.events c.args.self.now.child_fault in
    let ran = reporter c.note.new.self.events c.note.new.self.child_fault in
    let after = reporter c.finish-finished.new.self.events c.finish-finished.new.self.child_fault in
    let new = reporter c.note-2.new.self.events c.note-2.new.self.child_fault in
    let ok = subst (λ r. OnOk r (new.child_fault ≡ after.child_fault)) c.note-2.ensures.same
    c.note-2.ensures.ok in
    let err = subst (λ r. IfErr r (λ why. new.child_fault ≡ first_cause after.child_fault why))
    c.note-2.ensures.same c.note-2.ensures.err in
    let later = subst (λ (v : UnitView). Extends c.start_child.new.self.sink v.sink)
    (sym c.note.ensures.events) c.run_body-ended.ensures.more in
    let outer = subst (λ v. KeepsOuter c.start_child.new.self v) (sym c.note.ensures.events)
    c.run_body-ended.ensures.outer in
    let its = subst (λ r. IfOk r (g.B.Body.may_end c.args.body.now))
    (sym c.in_ok-outcome.ensures.same) c.run_body-ended.ensures.may in
    let runs = subst (λ r. IfOk r (g.B.Body.may_run c.args.body.now c.start_child.new.self
    c.run_body-ended.new.self)) (sym c.in_ok-outcome.ensures.same) c.run_body-ended.ensures.ran in
    let here = subst (λ v. g.B.Body.may_run c.args.body.now c.start_child.new.self v
    c.in_ok-outcome.outcome) (sym c.note.ensures.events) runs in
    record {
      runs = child_of_copy _ _ _ _ _ c.args.name.now old new _ _ c.in_ok-segment.ensures.ok
          c.note-2.ensures.same
          (child_ran _ _ _ old _ s.0 c.in_ok-key.key _ c.stamp-stamp.ensures s.1
          c.in_ok-key.ensures.free ran after new c.in_ok-outcome.outcome _ ok err
          (c.finish-finished.ensures.kept ∙ c.in_ok-outcome.ensures.ok) c.note-2.ensures.events
          c.in_ok-key.ensures.dynamic its later outer here c.finish-finished.ensures.ok
          c.finish-finished.ensures.err c.finish-finished.ensures.cause);
    }
