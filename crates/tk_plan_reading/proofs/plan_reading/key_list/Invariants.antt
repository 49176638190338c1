use Rattle.std.proofs.Common.{◌≡◌, ◌++◌}
use Rattle.tk_plan_reading.proofs.plan_reading.key_list.Given as goal

abbrev pub invariant-loop-key : goal.invariant-loop-key
invariant-loop-key l = l.list.items ++ l.key-iterator ≡ l.fn.keys.keys
