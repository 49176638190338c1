-- Laws of plans.
use Rattle.std.specs.Prelude.{◌≡◌, ℕ, List, [], Bool, true, false, ◌∷◌, flat_map, map, All, Some}
use Rattle.std.specs.Prelude.{slice_get}
use Rattle.tk_ids.specs.IdText.{SegmentView}
use Rattle.tk_ids.specs.declared.descriptors.Descriptor.{Descriptor}
use Rattle.tk_ids.specs.Table.{HasId}
use Rattle.tk_plan.specs.declared.trees.nodes.Node.{Node}
use Rattle.tk_plan.specs.declared.trees.nodes.NumberedNode.{NumberedNode}
use Rattle.tk_plan.specs.declared.scripts.steps.Act.TheVariants.{Finish}
use Rattle.tk_plan.specs.Trees.{Forest, forest}
use Rattle.tk_plan.specs.Script.{moves_below, move, opening, stamped}
use Rattle.tk_plan.specs.Events.{opening_events, finish_event}
use Rattle.tk_plan.specs.StepEvents.{event_of_step}
use Rattle.tk_plan.specs.Cutting.{all_static, parts_below, moves_of, from_each, root_script}
use Rattle.tk_plan.specs.Numbers.{IsNumbered, in_order}
use Rattle.tk_plan.specs.Ids.{ids_below, descriptor}
use Rattle.tk_plan.specs.Planned.{IsPlanned}

-- the parts of static trees, one after another, are what the trees do
abbrev pub LosesNothing : Type 0
LosesNothing =
    (is_root : Bool) (parent : ℕ) (f : Forest) → all_static f ≡ true
    → flat_map moves_of (parts_below is_root f) ≡ moves_below parent f

-- a node is found by its number
abbrev pub FindsNodes : Type 0
FindsNodes =
    (nodes : List NumberedNode) → IsNumbered nodes
    → All (λ p. slice_get (in_order nodes) p.number ≡ Some p.node) nodes

-- what the table says of the node at a place in preorder, whose id stands there too
pub record IsKeyed (table : List Descriptor) (p : NumberedNode) (id : List SegmentView)
    : Type 0 where
  pub static : p.node.is_static ≡ true → slice_get table p.number ≡ Some (descriptor id p.node)
  pub dynamic : p.node.is_static ≡ false → ¬ HasId table id

-- the table has each static node under its number, and no dynamic one
abbrev pub HasKeys : Type 0
HasKeys =
    (nodes : List NumberedNode) (table : List Descriptor) → IsPlanned nodes table → IsNumbered nodes
    → (i : ℕ) (p : NumberedNode) (id : List SegmentView) → slice_get nodes i ≡ Some p
    → slice_get (ids_below [] (forest nodes)) i ≡ Some id → IsKeyed table p id

-- the parts of a root, each with its stamps, are the root's script
abbrev pub KeepsStamps : Type 0
KeepsStamps =
    (is_root : Bool) (f : Forest) → all_static f ≡ true
    → from_each (λ i p. stamped i (moves_of p)) 0 (parts_below is_root f) ≡ root_script f

-- the events of a spine node before its children and after them are the events of its steps
abbrev pub SpineEventsAreSteps : Type 0
SpineEventsAreSteps =
    (n : Node) (k i : ℕ) → (opening_events k i n ≡ map (event_of_step n) (stamped i (opening n k)))
    × (finish_event k i n ∷ [] ≡ map (event_of_step n) (stamped i (move k Finish ∷ [])))
