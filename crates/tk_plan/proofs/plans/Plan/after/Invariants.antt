use Rattle.std.proofs.Common.{◌≡◌, ◌++◌, drop}
use Rattle.tk_plan.specs.CuttingSteps.{end_events_of_spine}
use Rattle.tk_plan.proofs.plans.Plan.after.Given as goal

abbrev pub invariant-loop-spine : goal.invariant-loop-spine
invariant-loop-spine l = end_events_of_spine l.self-inside.nodes.items l.spine-items ≡ l.events.items ++ end_events_of_spine l.self-inside.nodes.items (drop l.spine-index l.spine-items)
