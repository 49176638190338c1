use Rattle.std.proofs.Common.{None, Some, sym, ◌∙◌}
use Rattle.tk_plan_json.specs.NodeInputs as spec
use Rattle.tk_plan_json.specs.steps.CodeValues.{seen}
use Rattle.tk_plan_json.proofs.CheckSteps.{node_started}
use Rattle.tk_plan_json.proofs.NodeSteps.{leaf_below}
use Rattle.tk_plan_json.proofs.node_reading.start_node.Goals as goal

pub returns-then-checked : goal.returns-then-checked
returns-then-checked c =
    let k = c.in_ok-checked.ensures.1 in
    let s : spec.NodeInput = seen c.args.siblings.now c.args.node_input in
    (c.in_ok-checked.ensures.0, node_started _ _ _ s _ _ None c.requires k c.in_ok-add_node.ensures (leaf_below s (sym k.leaf ∙ c.if-checked.true)))

pub returns : goal.returns
returns c =
    let k = c.in_ok-checked.ensures.1 in
    let s : spec.NodeInput = seen c.args.siblings.now c.args.node_input in
    (c.in_ok-checked.ensures.0, node_started _ _ _ s _ _ (Some c.in_ok-add_parent.field-0) c.requires k c.in_ok-add_parent.ensures.added (c.in_ok-add_parent.ensures.id ∙ k.id))
