-- What private clauses and proofs alone name.
use Rattle.std.specs.Prelude.{List, [], ◌∷◌, ◌++◌, ◌≡◌, Result, Ok, Err}
use Rattle.tk_ids.specs.Table.{HasId, HasParent}
use Rattle.tk_ids.specs.declared.descriptors.Descriptor.{Descriptor}
use Rattle.tk_plan.specs.Ids.{descriptors}
use Rattle.tk_plan.specs.Planned.{IsPlanned}
use Rattle.tk_plan.specs.Trees.{Tree, flat}
use Rattle.tk_plan_json.specs.Progress.{IsNoted}
use Rattle.tk_plan_json.specs.Refusals.{IsFault}
use Rattle.tk_plan_json.specs.declared.faults.PlanFault.{PlanFault}
use Rattle.tk_plan_json.specs.declared.node_faults.NodeFault.{NodeFault}
use Rattle.tk_plan_json.specs.declared.read_nodes.ReadNodes.{ReadNodes}

-- The parent of each stands in the table or before it, and its id does not.
abbrev pub Follow : List Descriptor → List Descriptor → Type 0
Follow table [] = Unit {0}
Follow table (d ∷ ds) = HasParent table d.id × ¬ (HasId table d.id) × Follow (table ++ d ∷ []) ds

-- what was read has the nodes of the tree and the descriptors of the static ones, which are a plan
pub record HasTree (t : Tree) (r : ReadNodes) : Type 0 where
  pub nodes : r.nodes.items ≡ flat t
  pub descriptors : r.descriptors.items ≡ descriptors [] t
  pub noted : IsNoted r
  pub follow : Follow [] r.descriptors.items
  pub planned : IsPlanned r.nodes.items r.descriptors.items

-- the nodes of the plan were read, or the answer is the fault, unless memory ran out
abbrev pub IsReadFrom : Result Tree PlanFault → Result ReadNodes NodeFault → Type 0
IsReadFrom plan (Ok r) = (t : Tree) × (plan ≡ Ok t) × HasTree t r
IsReadFrom plan (Err e) = IsFault (λ f. plan ≡ Err f) e.fault
