-- What the code's values stand for.
use Rattle.std.specs.Prelude.{◌≡◌, ◌++◌, ◌+◌, ◌∷◌, [], ℕ, Bool, true, false, List, Option}
use Rattle.std.specs.Prelude.{None, Some, codes}
use denote.Ref.{Bor}
use Rattle.serde_json.specs.Data.{Data}
use Rattle.serde_json.specs.View.{view}
use Rattle.tk_ids.specs.IdText.{SegmentView}
use Rattle.tk_ids.specs.declared.id_faults.IdFault.{IdFault}
use Rattle.tk_ids.specs.declared.id_faults.IdFault.TheVariants as id_faults
use Rattle.tk_plan_json.specs.Checks.{member_at}
use Rattle.tk_plan_json.specs.NodeInputs as spec
use Rattle.tk_plan_json.specs.Pointers.{pointer}
use Rattle.tk_plan_json.specs.declared.faults.PlanFault.{PlanFault}
use Rattle.tk_plan_json.specs.declared.faults.PlanFault.TheVariants.{Id, Memory}
use Rattle.tk_plan_json.specs.declared.members.member_values.TwoTexts.{TwoTexts}
use Rattle.tk_plan_json.specs.declared.read_nodes.Named.{Named}
use Rattle.tk_plan_json.specs.declared.node_inputs.BelowMember.{BelowMember}
use Rattle.tk_plan_json.specs.declared.node_inputs.BelowMember.TheVariants.{Children, Dynamic}
use Rattle.tk_plan_json.specs.declared.node_inputs.NodePlace.{NodePlace}
use Rattle.tk_plan_json.specs.declared.node_inputs.NodeInput.{NodeInput}

-- the root has no id above it
abbrev pub above_of : Option (Bor (List SegmentView)) → List SegmentView
above_of None = []
above_of (Some id) = id.now

-- data at a place, after siblings with the earlier segments
abbrev pub node_at : List SegmentView → NodePlace → Data → spec.NodeInput
node_at earlier p d =
    record {
      path = pointer p.path;
      level = p.level;
      is_static = p.is_static;
      takes_files = p.takes_files;
      above = above_of p.above;
      earlier = earlier;
      value = d;
    }

-- a value that stands for a node, after siblings with the earlier segments
abbrev pub seen : List SegmentView → NodeInput → spec.NodeInput
seen earlier s = node_at earlier s.place (view s.value.now)

abbrev pub member_name : BelowMember → List ℕ
member_name Children = codes "children"
member_name Dynamic = codes "dynamic"

-- whether the nodes in the member are static
abbrev pub has_static : BelowMember → Bool
has_static Children = true
has_static Dynamic = false

-- the array in a member of the node at a place, whose id is given
abbrev pub array_at : NodePlace → BelowMember → List SegmentView → spec.NodeArray
array_at p member id =
    record {
      path = member_at (pointer p.path) (member_name member);
      level = p.level + 1;
      is_static = has_static member;
      takes_files = p.takes_files;
      above = id;
    }

-- two texts, as a tag and a value
abbrev pub json_segment_text : TwoTexts → SegmentView
json_segment_text p = record { tag = p.first.now; value = p.second.now }

-- the fault of a plan whose node has this fault of an id
abbrev pub as_plan_fault : IdFault → PlanFault
as_plan_fault id_faults.Memory = Memory
as_plan_fault fault = Id fault

-- the segment, and the id that ends with it
pub record IsNamed (above : List SegmentView) (s : SegmentView) (n : Named) : Type 0 where
  pub segment : n.segment ≡ s
  pub id : n.id ≡ above ++ s ∷ []
