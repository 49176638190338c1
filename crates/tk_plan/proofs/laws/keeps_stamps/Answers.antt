use Rattle.tk_plan.proofs.StepEvents.{keeps_stamps}
use Rattle.tk_plan.proofs.laws.keeps_stamps.Goals as goal

pub returns : goal.returns
returns c = keeps_stamps
