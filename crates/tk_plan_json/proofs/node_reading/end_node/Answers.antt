use Rattle.std.proofs.Common.{◌≡◌, length, refl, arith}
use Rattle.tk_plan_json.proofs.NodeSteps.{span_written}
use Rattle.tk_plan_json.proofs.node_reading.end_node.Goals as goal

pub returns : goal.returns
returns c =
    let len : c.len.result ≡ length c.args.read.now.nodes.items = grind arith in
    record {
      nodes = λ before after n e is. span_written c.args.read.now.nodes.items c.index_mut.result.now c.args.at c.len.result before after n len c.index_mut.ensures.value e is;
      descriptors = refl;
      dynamics = refl;
      keys = refl;
    }
