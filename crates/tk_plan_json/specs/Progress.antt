-- What was read of the nodes of a plan.
use Rattle.std.specs.Prelude.{◌≡◌, ◌≤◌}
use Rattle.std.specs.Prelude.{true, false, length}
use Rattle.std.specs.List.{list_all, count_by}
use Rattle.tk_ids.specs.declared.tables.TheConstants.{MAX_DESCRIPTORS}
use Rattle.tk_plan.specs.declared.units.needs.TheConstants.{MAX_KEYS}
use Rattle.tk_plan.specs.Ids.{descriptors}
use Rattle.tk_plan.specs.Keys.{lock_keys}
use Rattle.tk_plan.specs.Planned.{is_lawful_node}
use Rattle.tk_plan.specs.Trees.{flat, contents}
use Rattle.tk_plan_json.specs.declared.limits.TheConstants.{MAX_LEVELS}
use Rattle.tk_plan_json.specs.Verdicts.{is_kind}
use Rattle.tk_plan_json.specs.NodeInputs.{NodeInput, grown}
use Rattle.tk_plan_json.specs.declared.read_nodes.ReadNodes.{ReadNodes}

-- what is kept beside the nodes fits them
pub record IsNoted (r : ReadNodes) : Type 0 where
  pub keys : r.keys.keys ≡ lock_keys (contents r.nodes.items)
  pub few_keys : length r.keys.keys ≤ MAX_KEYS
  pub statics : length r.descriptors.items ≡ count_by (is_kind true) (contents r.nodes.items)
  pub few_statics : length r.descriptors.items ≤ MAX_DESCRIPTORS
  pub dynamics : r.dynamics ≡ count_by (is_kind false) (contents r.nodes.items)
  pub few_dynamics : r.dynamics ≤ MAX_DESCRIPTORS
  pub lawful : list_all is_lawful_node (contents r.nodes.items) ≡ true

-- the node and all below it were read, and no others
pub record HasRead (s : NodeInput) (r : ReadNodes) : Type 0 where
  pub nodes : r.nodes.items ≡ flat (grown MAX_LEVELS s)
  pub descriptors : r.descriptors.items ≡ descriptors s.above (grown MAX_LEVELS s)
  pub noted : IsNoted r
