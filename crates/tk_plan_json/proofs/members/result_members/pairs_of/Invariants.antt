use Rattle.std.proofs.Common.{◌≡◌, ◌++◌}
use Rattle.tk_plan_json.proofs.members.result_members.pairs_of.Given as goal

abbrev pub invariant-loop-pair : goal.invariant-loop-pair
invariant-loop-pair l = l.pairs.items ++ l.pair-iterator ≡ l.fn.map.entries
