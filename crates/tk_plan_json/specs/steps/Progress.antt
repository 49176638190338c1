-- What a step of the reading adds to what was read.
use Rattle.std.specs.Prelude.{◌≡◌, ◌++◌, ◌+◌, ◌≤◌, ◌<◌, ◌∷◌, [], ℕ, suc, List, Option, Some, None}
use Rattle.std.specs.Prelude.{Bool, true, nat_lt, nat_le, length, map, flat_map}
use Rattle.std.specs.Prelude.{◌-◌, if◌then◌else◌}
use Rattle.std.specs.List.{list_any, count_by}
use Rattle.tk_ids.specs.IdText.{SegmentView}
use Rattle.tk_ids.specs.declared.descriptors.Descriptor.{Descriptor}
use Rattle.tk_ids.specs.declared.tables.TheConstants.{MAX_DESCRIPTORS}
use Rattle.tk_ids.specs.declared.tables.TableFault.TheVariants.{Twice, Full}
use Rattle.tk_plan.specs.declared.units.needs.TheConstants.{MAX_KEYS}
use Rattle.tk_plan.specs.declared.trees.nodes.Node.{Node}
use Rattle.tk_plan.specs.declared.trees.nodes.NumberedNode.{NumberedNode}
use Rattle.tk_plan.specs.Ids.{descriptor_in, descriptors}
use Rattle.tk_plan.specs.Keys.{lock_keys}
use Rattle.tk_plan.specs.Planned.{is_lawful_node}
use Rattle.tk_plan.specs.Trees.{Tree, flat, contents}
use Rattle.tk_plan_json.specs.declared.limits.TheConstants.{MAX_LEVELS}
use Rattle.tk_plan_json.specs.Verdicts.{is_kind, same_segment, located, when}
use Rattle.tk_plan_json.specs.steps.Fields.{has_no_below}
use Rattle.tk_plan_json.specs.NodeInputs.{NodeInput, segment_of, id_of, node_of, below, grown}
use Rattle.tk_plan_json.specs.NodeInputs.{node_inputs}
use Rattle.tk_plan_json.specs.declared.faults.PlanFault.{PlanFault}
use Rattle.tk_plan_json.specs.declared.faults.PlanFault.TheVariants.{Table}
use Rattle.tk_plan_json.specs.declared.faults.PlanFault.TheVariants.{TooManyResources}
use Rattle.tk_plan_json.specs.declared.node_faults.NodeFault.{NodeFault}
use Rattle.tk_plan_json.specs.declared.read_nodes.ReadNodes.{ReadNodes}
use Rattle.tk_plan_json.specs.declared.read_nodes.Checked.{Checked}
use Rattle.tk_plan_json.specs.declared.read_nodes.Named.{Named}
use Rattle.tk_plan_json.specs.Progress.{IsNoted}

-- what was read before a node: the nodes, and the segments of the node's siblings
pub record ReadState : Type 0 where
  pub read : ReadNodes
  pub siblings : List SegmentView

abbrev pub state : ReadNodes → List SegmentView → ReadState
state read siblings = record { read = read; siblings = siblings }

-- What a node adds: one node of its kind, its segment among its siblings', and its lock keys among
-- the plan's, which together are `keys`.
pub record Addition : Type 0 where
  pub is_static : Bool
  pub segment : SegmentView
  pub keys : List (List ℕ)

abbrev pub addition : Bool → SegmentView → List (List ℕ) → Addition
addition is_static segment keys =
    record { is_static = is_static; segment = segment; keys = keys }

-- what a node adds to the nodes before it
abbrev pub addition_of : List Node → NodeInput → Addition
addition_of before s =
    addition s.is_static (segment_of s) (lock_keys (before ++ node_of s ∷ []))

-- whether there is room for what a node adds, after these nodes and its siblings' segments
abbrev pub room_checks : List Node → List SegmentView → Addition → List (Option PlanFault)
room_checks before earlier a =
    when (list_any (same_segment a.segment) earlier) (Table Twice)
    ∷ when (nat_le MAX_DESCRIPTORS (count_by (is_kind a.is_static) before)) (Table Full)
    ∷ when (nat_lt MAX_KEYS (length a.keys)) TooManyResources
    ∷ []

-- a node's segment and its lock keys were noted, and there is room for the node
pub record IsEntered (old new : ReadState) (a : Addition) : Type 0 where
  pub nodes : new.read.nodes.items ≡ old.read.nodes.items
  pub descriptors : new.read.descriptors.items ≡ old.read.descriptors.items
  pub dynamics : new.read.dynamics ≡ old.read.dynamics
  pub keys : new.read.keys.keys ≡ a.keys
  pub few_keys : length a.keys ≤ MAX_KEYS
  pub room : count_by (is_kind a.is_static) (contents old.read.nodes.items) < MAX_DESCRIPTORS
  pub siblings : new.siblings ≡ old.siblings ++ a.segment ∷ []

-- a node's segment and its lock keys were noted, and this is its segment with its id
pub record IsAdmitted (old new : ReadState) (s : NodeInput) (n : Named) : Type 0 where
  pub segment : n.segment ≡ segment_of s
  pub id : n.id ≡ id_of s
  pub entered : IsEntered old new (addition_of (contents old.read.nodes.items) s)

-- a node was checked, and its segment and its lock keys were noted
pub record IsChecked (old new : ReadState) (s : NodeInput) (c : Checked) : Type 0 where
  pub node : c.node ≡ node_of s
  pub id : c.id ≡ id_of s
  pub leaf : c.is_leaf ≡ has_no_below s.is_static s.value
  pub lawful : is_lawful_node c.node ≡ true
  pub level : s.level ≤ MAX_LEVELS
  pub entered : IsEntered old new (addition_of (contents old.read.nodes.items) s)

-- a static node's descriptor was put at the end, or another node was counted
pub record IsDescribed (old new : ReadNodes) (n : Node) (id : List SegmentView) : Type 0 where
  pub nodes : new.nodes.items ≡ old.nodes.items
  pub descriptors : new.descriptors.items ≡ old.descriptors.items ++ descriptor_in id n
  pub dynamics : new.dynamics ≡ old.dynamics + (if n.is_static then 0 else 1)
  pub keys : new.keys.keys ≡ old.keys.keys

-- a node was put at the end
pub record IsAdded (old new : ReadNodes) (n : Node) (id : List SegmentView) : Type 0 where
  pub nodes : new.nodes.items ≡ old.nodes.items ++ record { node = n; number = 0; span = 1 } ∷ []
  pub descriptors : new.descriptors.items ≡ old.descriptors.items ++ descriptor_in id n
  pub dynamics : new.dynamics ≡ old.dynamics + (if n.is_static then 0 else 1)
  pub keys : new.keys.keys ≡ old.keys.keys

-- nodes stand below it, and this is its id, or none do
abbrev pub HasBelow : NodeInput → Option (List SegmentView) → Type 0
HasBelow s None = below s ≡ []
HasBelow s (Some id) = id ≡ id_of s

-- a node was checked and put at the end, and what is below it is still to be read
pub record IsStarted (old new : ReadState) (s : NodeInput)
    (id : Option (List SegmentView)) : Type 0 where
  pub nodes : new.read.nodes.items ≡ old.read.nodes.items
      ++ record { node = node_of s; number = 0; span = 1 } ∷ []
  pub descriptors : new.read.descriptors.items ≡ old.read.descriptors.items
      ++ descriptor_in (id_of s) (node_of s)
  pub noted : IsNoted new.read
  pub level : s.level ≤ MAX_LEVELS
  pub siblings : new.siblings ≡ old.siblings ++ segment_of s ∷ []
  pub below : HasBelow s id

-- the node at a place spans all from there to the last
pub record IsSpanned (old new : ReadNodes) (at : ℕ) : Type 0 where
  pub nodes : (before after : List NumberedNode) (n : Node) → old.nodes.items ≡ before
      ++ record { node = n; number = 0; span = 1 } ∷ after → at ≡ length before
      → new.nodes.items ≡ before ++ record { node = n; number = 0; span = suc (length after) }
      ∷ after
  pub descriptors : new.descriptors.items ≡ old.descriptors.items
  pub dynamics : new.dynamics ≡ old.dynamics
  pub keys : new.keys.keys ≡ old.keys.keys

-- nodes were read, with the descriptors of the static ones
pub record AddsNodes (old new : ReadNodes) (added : List NumberedNode)
    (ds : List Descriptor) : Type 0 where
  pub nodes : new.nodes.items ≡ old.nodes.items ++ added
  pub descriptors : new.descriptors.items ≡ old.descriptors.items ++ ds
  pub noted : IsNoted new

-- how many levels there may be from a node of this level down, itself among them
abbrev pub levels_from : ℕ → ℕ
levels_from level = MAX_LEVELS + 1 - level

-- how many levels there may be below a node of this level
abbrev pub levels_below : ℕ → ℕ
levels_below level = MAX_LEVELS - level

-- the first fault of a node and of what is below it, at most this many levels, after those read
abbrev pub located_of_node : ReadNodes → ℕ → NodeInput → Option NodeFault
located_of_node r levels s = located (contents r.nodes.items) (node_inputs levels s)

-- a node and all below it were read
abbrev pub AddsTree : ReadNodes → ReadNodes → ℕ → NodeInput → Type 0
AddsTree old new levels s =
    AddsNodes old new (flat (grown levels s)) (descriptors s.above (grown levels s))

-- nodes below one parent, whose id is `above`, with at most this many levels from each of them down
pub record NodeGroup : Type 0 where
  pub above : List SegmentView
  pub levels : ℕ
  pub nodes : List NodeInput

-- the trees of these nodes, before the nodes have their numbers
abbrev pub trees_of : NodeGroup → List Tree
trees_of g = map (grown g.levels) g.nodes

-- the first fault of some nodes and of all below them, after those read
abbrev pub located_of_group : ReadNodes → NodeGroup → Option NodeFault
located_of_group r g = located (contents r.nodes.items) (flat_map (node_inputs g.levels) g.nodes)

-- these nodes and all below them were read
abbrev pub AddsGroup : ReadNodes → ReadNodes → NodeGroup → Type 0
AddsGroup old new g =
    AddsNodes old new (flat_map flat (trees_of g)) (flat_map (descriptors g.above) (trees_of g))
