use Rattle.std.proofs.Common.{◌≡◌, ◌++◌}
use Rattle.tk_plan_reading.specs.steps.{Follow}
use Rattle.tk_plan_reading.proofs.plan_reading.table_of.Given as goal

abbrev pub invariant-loop-descriptor : goal.invariant-loop-descriptor
invariant-loop-descriptor l = (l.table ++ l.descriptor-iterator.rest.items ≡ l.fn.descriptors.items) × Follow l.table l.descriptor-iterator.rest.items
