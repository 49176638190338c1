use Rattle.std.proofs.Common.{ap, subst, sym}
use Rattle.std.proofs.lemmas.Result.{err_from_is_err_and}
use Rattle.tk_engine_unit_events.specs.UnitSteps.{ChildView}
use Rattle.tk_engine_unit_events.specs.steps.{IsNotedChild}
use Rattle.tk_engine_unit_events.proofs.Taken.{not_noted}
use Rattle.tk_engine_unit_events.proofs.leases.Lease.register_child.Goals as goal

pub returns-in_err-key-clause-taken : goal.returns-in_err-key-clause-taken
returns-in_err-key-clause-taken g c =
    let p = err_from_is_err_and c.from_residual-in_err-key.result
    c.from_residual-in_err-key.ensures.1 in
    rw (p.1, p.2) (λ n.
    absurd (not_noted _ _ _ c.in_ok-id.id _ c.in_ok-id.ensures.id c.in_ok-id.ensures.not_static
    c.in_ok-id.ensures.not_registered
    (subst (IsNotedChild _ _ _) (sym (ap (λ (v : ChildView). v.segment) c.child.view_is)) n)))
