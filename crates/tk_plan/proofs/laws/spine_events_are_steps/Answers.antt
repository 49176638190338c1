use Rattle.tk_plan.proofs.StepEvents.{spine_events_are_steps}
use Rattle.tk_plan.proofs.laws.spine_events_are_steps.Goals as goal

pub returns : goal.returns
returns c = spine_events_are_steps
