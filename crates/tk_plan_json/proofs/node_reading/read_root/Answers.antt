use Rattle.std.proofs.Common.{◌≡◌, ◌++◌, [], codes, true, sym, ap₂, ◌∙◌}
use Rattle.serde_json.specs.View.{view}
use Rattle.tk_plan.specs.Ids.{descriptors}
use Rattle.tk_plan.specs.Trees.{flat, contents}
use Rattle.tk_plan_json.specs.Verdicts.{located}
use Rattle.tk_plan_json.specs.NodeInputs as spec
use Rattle.tk_plan_json.specs.NodeInputs.{root_at, node_inputs, grown}
use Rattle.tk_plan_json.proofs.NodeFaults.{meets_at_also}
use Rattle.tk_plan_json.proofs.node_reading.read_root.Goals as goal

pub returns : goal.returns
returns c =
    let r = view c.args.root in
    let s : spec.NodeInput = record { path = codes "/root"; level = 1; is_static = true; takes_files = c.args.takes_files; above = []; earlier = c.in_ok-siblings.siblings; value = r } in
    let is : s ≡ root_at c.args.takes_files r = λ j. record { path = codes "/root"; level = 1; is_static = true; takes_files = c.args.takes_files; above = []; earlier = c.in_ok-siblings.ensures j; value = r } in
    let q = c.requires in
    let here = ap₂ (λ l x. located (contents l) (node_inputs 60 x)) q.nodes is in
    meets_at_also _ _ _ _ _ (sym here) (λ _ done. record {
      nodes = done.0.nodes ∙ ap₂ (λ l x. l ++ flat (grown 60 x)) q.nodes is;
      descriptors = done.0.descriptors ∙ ap₂ (λ l x. l ++ descriptors [] (grown 60 x)) q.descriptors is;
      noted = done.0.noted;
    }) c.read_node.ensures
