use Rattle.std.proofs.Common.{◌∙◌}
use Rattle.std.proofs.lemmas.Result.{on_ok_weaker}
use Rattle.tk_plan_nodes.proofs.BodyCalls.{added}
use Rattle.tk_plan_nodes.proofs.body_calls.+adding.Goals as goal

pub push_node-returns : goal.push_node-returns
push_node-returns t c =
    on_ok_weaker c.push_nodes-2.result (λ last. added c.args.node.now c.args.above c.args.prefix.now _ _ _ _ _ _ _ _ _ _
    c.place_of-place.ensures c.in_ok-node_body.ensures (c.as_str.ensures.value ∙ c.in_ok-below.ensures) (c.as_str-2.ensures.value ∙ c.in_ok-below.ensures)
    c.as_slice.ensures.value c.as_slice-2.ensures.value c.in_ok-push.ensures.items c.in_ok-push_nodes.ensures last) c.push_nodes-2.ensures
