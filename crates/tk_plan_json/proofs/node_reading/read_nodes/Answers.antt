use Rattle.std.proofs.Common.{◌≡◌, [], length, true, false, sym, ap, ◌∙◌, arith}
use Rattle.std.specs.List.{count_by, list_all}
use Rattle.std.proofs.lemmas.Result.{err_from_is_err_and}
use Rattle.tk_plan.specs.Keys.{lock_keys}
use Rattle.tk_plan.specs.Planned.{is_lawful_node}
use Rattle.tk_plan.specs.Trees.{contents}
use Rattle.tk_plan_json.specs.Verdicts.{is_kind}
use Rattle.tk_plan_json.specs.Progress.{IsNoted}
use Rattle.tk_plan_json.specs.declared.read_nodes.ReadNodes.{ReadNodes}
use Rattle.tk_plan_json.proofs.NodeFaults.{faults_at_also}
use Rattle.tk_plan_json.proofs.node_reading.read_nodes.Goals as goal

-- where no node was read
none_noted : (r : ReadNodes) → r.nodes.items ≡ [] → r.descriptors.items ≡ [] → r.dynamics ≡ 0 → r.keys.keys ≡ [] → IsNoted r
none_noted r nodes descriptors dynamics keys =
    let no_keys : length r.keys.keys ≡ 0 = ap length keys in
    let no_descriptors : length r.descriptors.items ≡ 0 = ap length descriptors in
    record {
      keys = keys ∙ ap (λ l. lock_keys (contents l)) (sym nodes);
      few_keys = omega arith;
      statics = no_descriptors ∙ ap (λ l. count_by (is_kind true) (contents l)) (sym nodes);
      few_statics = omega arith;
      dynamics = dynamics ∙ ap (λ l. count_by (is_kind false) (contents l)) (sym nodes);
      few_dynamics = omega arith;
      lawful = ap (λ l. list_all is_lawful_node (contents l)) nodes;
    }

pub returns-in_err-read_root : goal.returns-in_err-read_root
returns-in_err-read_root c =
    let p = err_from_is_err_and c.from_residual.result c.from_residual.ensures.1 in
    rw (p.1, p.2) (faults_at_also _ _ _ (λ f w. w) c.in_err-read_root.ensures)

pub read_root-requires : goal.read_root-requires
read_root-requires c =
    let new = c.new-read.ensures in
    record { nodes = new.nodes; descriptors = new.descriptors; noted = none_noted c.new-read.result new.nodes new.descriptors new.dynamics new.keys }
