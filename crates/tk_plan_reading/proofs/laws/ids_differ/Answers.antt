use Rattle.tk_plan_reading.proofs.PlanLawSteps.{plan_ids}
use Rattle.tk_plan_reading.proofs.laws.ids_differ.Goals as goal

pub returns : goal.returns
returns c = plan_ids
