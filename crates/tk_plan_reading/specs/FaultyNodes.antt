-- Which node of a plan has the first fault.
use Rattle.std.specs.Prelude.{◌≡◌, ℕ, List, [], Option, Some, None}
use Rattle.std.specs.Option.{option_and_then}
use Rattle.serde_json.specs.Data.{Data}
use Rattle.tk_plan_nodes.specs.NodeIds.{id_at}
use Rattle.tk_plan_nodes.specs.NodeJson.{plan_data}
use Rattle.tk_plan_nodes.specs.declared.plan_nodes.PlanNode.{PlanNode}
use Rattle.tk_plan_json.specs.NodeInputs.{node_inputs}
use Rattle.tk_plan_json.specs.Verdicts.{located}
use Rattle.tk_plan_json.specs.declared.limits.TheConstants.{MAX_LEVELS}
use Rattle.tk_plan_json.specs.declared.node_faults.NodeFault.{NodeFault}
use Rattle.tk_plan_json.specs.Refusals.{IsFault}
use Rattle.tk_plan_json.specs.declared.faults.PlanFault.{PlanFault}
use Rattle.tk_plan_json.specs.declared.faults.PlanFault.TheVariants.{Memory}
use Rattle.tk_plan_reading.specs.PlanOf.{top, root_of}

-- no node's fault is the first where the members above the root are wrong
abbrev pub after_top : Option (List ℕ) → Option NodeFault → Option NodeFault
after_top None v = v
after_top (Some path) v = None

-- the number in preorder of the node that has the first fault, if a node has it
abbrev pub faulty_node : Data → Option ℕ
faulty_node v =
    option_and_then (λ l. l.node)
    (after_top (top [] v) (located [] (node_inputs MAX_LEVELS (root_of v))))

-- the id of that node, in a plan in code
abbrev pub faulty_id : PlanNode → Option (List ℕ)
faulty_id root = option_and_then (id_at root) (faulty_node (plan_data root))

-- the fault is at this node, unless memory ran out, and then it is at none
abbrev pub HasNode : {A : Type 0} → Option A → PlanFault → Option A → Type 0
HasNode node fault at = IsFault (λ _. at ≡ node) fault × (fault ≡ Memory → at ≡ None)
