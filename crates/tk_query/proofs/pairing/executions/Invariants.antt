use Rattle.std.proofs.Common.{◌++◌, length}
use Rattle.tk_query.specs.ExecutionSteps.{step_at}
use Rattle.tk_query.specs.Executions.{AreExecutions}
use Rattle.tk_query.specs.Pairing.{rest_of, HaveSlots}
use Rattle.tk_query.proofs.pairing.executions.Given as goal

abbrev pub invariant-executions : goal.invariant-executions
invariant-executions l = HaveSlots l.events.recorded l.pairing.starts × AreExecutions (step_at l.events) (l.items.items ++ rest_of l.events l.pairing)

abbrev pub decreases-executions : goal.decreases-executions
decreases-executions l = length (rest_of l.events l.pairing)
