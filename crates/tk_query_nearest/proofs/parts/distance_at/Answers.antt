use Rattle.std.proofs.Common.{◌≤◌, ap, length, refl, arith, inl, inr}
use Rattle.std.proofs.lemmas.Bool.{cases_lt, false≢true}
use Rattle.std.proofs.lemmas.Option.{slice_get_past}
use Rattle.tk_query_conditions.specs.CondOf.{cond_of}
use Rattle.tk_query_nearest.specs.Nearness.{distance_of}
use Rattle.tk_query_nearest.proofs.ViewLemmas.{view_there}
use Rattle.tk_query_nearest.proofs.parts.distance_at.Goals as goal

pub returns-in-Some : goal.returns-in-Some
returns-in-Some c =
    let r = c.args.«record».now in
    let far = view_there r (cond_of c.args.condition.now) r.entries c.args.position
    c.in-Some.event (c.in-Some.ensures.there.0 refl) c.in-Some.ensures.value in
    let fits = c.ranges.most.fits in
    let counted = c.distance_up_to.ensures in
    omega (arith, far)

pub returns-in-None : goal.returns-in-None
returns-in-None c =
    let r = c.args.«record».now in
    let none : length r.entries ≤ c.args.position =
    elim (cases_lt c.args.position (length r.entries)) [
      | inl within ↦ absurd (false≢true (c.in-None.ensures.there.1 within))
      | inr le ↦ le
    ] in
    let far = ap (distance_of r (cond_of c.args.condition.now))
    (slice_get_past r.entries c.args.position none) in
    omega (arith, far)
