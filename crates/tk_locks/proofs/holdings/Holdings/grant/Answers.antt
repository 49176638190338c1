use Rattle.std.proofs.Common.{rules, arith, subst, refl, length, ◌≡◌, ◌∙◌, ap, false, Option, Some, None, is_some, All, List, slice_get}
use Rattle.std.proofs.lemmas.Option.{slice_get_read}
use Rattle.tk_locks.specs.NeedView.{NeedView}
use Rattle.tk_locks.specs.Holdings.{IsCompatible, MayTake}
use Rattle.tk_locks.proofs.LaneConflicts.{set_compatible}
use Rattle.tk_locks.proofs.holdings.Holdings.grant.Goals as goal

is_none : (h : Option NeedView) → is_some h ≡ false → h ≡ None
is_none None e = refl
is_none (Some n) e = cc

pub invariant_of-self : goal.invariant_of-self
invariant_of-self c = set_compatible _ _ _ c.self.invariant (subst (λ (l : List (Option NeedView)). All (IsCompatible (Some c.args.need)) l) c.deref-held-items.ensures.value (λ k d lt. c.loop-held.invariant k d (omega arith)))

pub returns-clause-exactly : goal.returns-clause-exactly
returns-clause-exactly c = let all = subst (λ (l : List (Option NeedView)). All (IsCompatible (Some c.args.need)) l) c.deref-held-items.ensures.value (λ k d lt. c.loop-held.invariant k d (omega arith)) in
    let empty : slice_get c.self.inside.seats.items c.args.seat ≡ Some None = slice_get_read c.self.inside.seats.items (length c.self.inside.seats.items) c.args.seat c.index.result.now refl (omega arith) (search rules) ∙ ap (λ (h : Option NeedView). Some h) (is_none c.index.result.now (search rules)) in
    ((λ _. subst (λ (l : List (Option NeedView)). MayTake l c.args.seat c.args.need) c.self.view_is (empty, all)), λ _. refl)

pub returns-clause-compatible : goal.returns-clause-compatible
returns-clause-compatible c = set_compatible _ _ _ c.self.invariant (subst (λ (l : List (Option NeedView)). All (IsCompatible (Some c.args.need)) l) c.deref-held-items.ensures.value (λ k d lt. c.loop-held.invariant k d (omega arith)))
