use Rattle.std.proofs.Common.{◌≡◌}
use Rattle.tk_plan_json.proofs.OnePass.{FoundSoFar}
use Rattle.tk_plan_json.proofs.node_members.NodeMembers.of.Given as goal

abbrev pub invariant-loop-name : goal.invariant-loop-name
invariant-loop-name l =
    FoundSoFar l.initial.name-iterator l.name-iterator l.found × (l.found.value.now ≡ l.fn.value)
