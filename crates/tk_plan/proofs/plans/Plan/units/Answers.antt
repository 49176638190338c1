use Rattle.std.proofs.Common.{◌∙◌, ap, length, arith}
use Rattle.tk_plan.proofs.SpineEmissions.{few_units}
use Rattle.tk_plan.proofs.plans.Plan.units.Goals as goal

pub returns-clause-few : goal.returns-clause-few
returns-clause-few c = omega (arith, ap length (c.as_slice.ensures.value ∙ c.self.invariant.cut.unit_keys), few_units _ _ c.self.invariant.planned)
