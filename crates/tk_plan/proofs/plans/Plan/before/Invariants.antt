use Rattle.std.proofs.Common.{◌≡◌, ◌++◌, drop}
use Rattle.tk_plan.specs.CuttingSteps.{begin_events_of_spine}
use Rattle.tk_plan.proofs.plans.Plan.before.Given as goal

abbrev pub invariant-loop-spine : goal.invariant-loop-spine
invariant-loop-spine l = begin_events_of_spine l.self-inside.nodes.items l.spine-items ≡ l.events.items ++ begin_events_of_spine l.self-inside.nodes.items (drop l.spine-index l.spine-items)
