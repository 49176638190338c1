-- What a plan keeps of its nodes: where the spine and the units stand, and where each number does.
use Rattle.std.specs.Prelude.{◌≡◌, ◌≤◌, ℕ, List, All, true}
use Rattle.tk_base.specs.declared.limits.TheConstants.{MAX_EVENTS}
use Rattle.tk_ids.specs.declared.descriptors.Descriptor.{Descriptor}
use Rattle.tk_plan.specs.declared.trees.nodes.NumberedNode.{NumberedNode}
use Rattle.tk_plan.specs.declared.units.cuttings.Cutting.{Cutting}
use Rattle.tk_plan.specs.Trees.{IsForest, forest, contents}
use Rattle.tk_plan.specs.Weights.{weights}
use Rattle.tk_plan.specs.Cutting.{all_static, spine_of, units_of, pieces_of, before_of}
use Rattle.tk_plan.specs.Cutting.{after_of}
use Rattle.tk_plan.specs.Keys.{lock_keys}
use Rattle.tk_plan.specs.Numbers.{ArePositionsByNumber, IsNumbered}
use Rattle.tk_plan.specs.CuttingSteps.{Fits, HasStampAt, HasNode, pieces_of_units}
use Rattle.tk_plan.specs.CuttingSteps.{begin_events_of_spine, end_events_of_spine}
use Rattle.tk_plan.specs.Planned.{IsPlanned}

-- what was cut is the spine and the units of the trees that the nodes are
pub record IsCut (nodes : List NumberedNode) (c : Cutting) : Type 0 where
  pub trees : IsForest nodes
  pub statics : all_static (forest nodes) ≡ true
  pub spine : c.spine.items ≡ spine_of (forest nodes)
  pub unit_keys : c.unit_keys.items ≡ units_of (forest nodes)
  pub units : pieces_of_units nodes c.units.items ≡ pieces_of (forest nodes)
  pub fits : All (Fits nodes (lock_keys (contents nodes))) c.units.items
  pub before : begin_events_of_spine nodes c.starts.items ≡ before_of (forest nodes)
  pub starts : All (HasStampAt nodes) c.starts.items
  pub after : end_events_of_spine nodes c.finishes.items ≡ after_of (forest nodes)
  pub finishes : All (HasNode nodes) c.finishes.items
  pub total : c.event_count ≡ weights (forest nodes)
  pub limit : weights (forest nodes) ≤ MAX_EVENTS

-- a plan and what it keeps
pub record IsPlan (nodes : List NumberedNode) (table : List Descriptor) (c : Cutting)
    (positions : List ℕ) : Type 0 where
  pub planned : IsPlanned nodes table
  pub numbered : IsNumbered nodes
  pub cut : IsCut nodes c
  pub numbered_node : ArePositionsByNumber nodes positions
