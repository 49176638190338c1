-- What is wrong with the nodes of a plan.
use Rattle.std.specs.Prelude.{◌≡◌, Result, Ok, Err}
use Rattle.std.specs.Prelude.{ℕ, ◌&&◌, ◌||◌, ◌==◌, List, [], ◌∷◌, ◌++◌, length, Bool, true, false}
use Rattle.std.specs.Prelude.{not, nat_lt, nat_le, Option, Some, None, option_map, if◌then◌else◌}
use Rattle.std.specs.List.{list_any, count_by}
use Rattle.std.specs.Option.{option_or}
use Rattle.std.specs.Str.{bytes_eq}
use Rattle.tk_ids.specs.IdText.{SegmentView, id_text}
use Rattle.tk_ids.specs.declared.ids.TheConstants.{MAX_BYTES, MAX_SEGMENTS}
use Rattle.tk_ids.specs.declared.id_faults.IdFault.{IdFault}
use Rattle.tk_ids.specs.declared.id_faults.IdFault.TheVariants.{Empty, TooLong}
use Rattle.tk_ids.specs.declared.tables.TheConstants.{MAX_DESCRIPTORS}
use Rattle.tk_ids.specs.declared.tables.TableFault.TheVariants.{Twice, Full}
use Rattle.tk_plan.specs.declared.trees.nodes.Node.{Node}
use Rattle.tk_plan.specs.declared.units.needs.TheConstants.{MAX_KEYS}
use Rattle.tk_plan.specs.Keys.{lock_keys}
use Rattle.tk_plan_json.specs.Checks.{first}
use Rattle.tk_plan_json.specs.Rows.{static_node, dynamic_node}
use Rattle.tk_plan_json.specs.NodeInputs.{NodeInput, segment_of, node_of, repeats_key}
use Rattle.tk_plan_json.specs.declared.faults.PlanFault.{PlanFault}
use Rattle.tk_plan_json.specs.declared.faults.PlanFault.TheVariants.{Field, Id, Table, Deep}
use Rattle.tk_plan_json.specs.declared.faults.PlanFault.TheVariants.{TooManyResources}
use Rattle.tk_plan_json.specs.declared.faults.PlanFault.TheVariants.{EntryKeyTwice, Memory}
use Rattle.tk_plan_json.specs.Refusals.{IsFault}
use Rattle.tk_plan_json.specs.declared.node_faults.NodeFault.{NodeFault}
use Rattle.tk_plan_json.specs.declared.limits.TheConstants.{MAX_LEVELS}

-- this, where it is true
abbrev pub when : {A : Type 0} → Bool → A → Option A
when b x = if b then Some x else None

-- ---- ids

abbrev pub is_empty : List ℕ → Bool
is_empty s = length s == 0

-- the id is within the limits
abbrev pub fits : List SegmentView → Bool
fits id = nat_le (length (id_text id)) MAX_BYTES && nat_le (length id) MAX_SEGMENTS

-- why a segment can't stand below an id
abbrev pub id_fault : List SegmentView → SegmentView → Option IdFault
id_fault above s =
    if is_empty s.tag || is_empty s.value then Some Empty
    else when (not (fits (above ++ s ∷ []))) TooLong

abbrev pub same_segment : SegmentView → SegmentView → Bool
same_segment a b = bytes_eq a.tag b.tag && bytes_eq a.value b.value

-- ---- checks

-- the place of what is wrong first with a node's members
abbrev pub node_check : NodeInput → Option (List ℕ)
node_check s =
    if s.is_static then static_node s.takes_files s.path s.value
    else dynamic_node s.takes_files s.path s.value

-- whether the node is static, where the first argument is true, or else dynamic
abbrev pub is_kind : Bool → Node → Bool
is_kind true n = n.is_static
is_kind false n = not n.is_static

-- What may be wrong with a node, given the nodes before it in preorder.
unfoldable pub checks : List Node → NodeInput → List (Option PlanFault)
checks before s =
    when (nat_lt MAX_LEVELS s.level) Deep
    ∷ option_map Field (node_check s)
    ∷ when (repeats_key s.value) EntryKeyTwice
    ∷ option_map Id (id_fault s.above (segment_of s))
    ∷ when (list_any (same_segment (segment_of s)) s.earlier) (Table Twice)
    ∷ when (nat_le MAX_DESCRIPTORS (count_by (is_kind s.is_static) before)) (Table Full)
    ∷ when (nat_lt MAX_KEYS (length (lock_keys (before ++ node_of s ∷ [])))) TooManyResources
    ∷ []

-- the checks of each node in turn
unfoldable pub joined : List Node → List NodeInput → List (Option PlanFault)
joined before [] = []
joined before (s ∷ ss) = checks before s ++ joined (before ++ node_of s ∷ []) ss

-- the first fault of some nodes, after the nodes before them in preorder
abbrev pub verdict : List Node → List NodeInput → Option PlanFault
verdict before ss = first (joined before ss)

-- ---- whose fault it is

-- the fault of the node with this number
abbrev pub at_node : ℕ → PlanFault → NodeFault
at_node number fault = record { fault = fault; node = Some number }

-- The verdict, with the number of the node that has the fault: how many nodes are before it in
-- preorder.
unfoldable pub located : List Node → List NodeInput → Option NodeFault
located before [] = None
located before (s ∷ ss) =
    option_or (option_map (at_node (length before)) (first (checks before s)))
    (located (before ++ node_of s ∷ []) ss)

-- the fault and its node are those, unless memory ran out, and then no node has the fault
pub record FaultsAt (v : Option NodeFault) (e : NodeFault) : Type 0 where
  pub found : IsFault (λ f. v ≡ Some e) e.fault
  pub memory : e.fault ≡ Memory → e.node ≡ None

-- there is no fault, and P holds; or the fault and its node are those
abbrev pub MeetsAt : {A : Type 0} → Option NodeFault → (A → Type 0) → Result A NodeFault → Type 0
MeetsAt v P (Ok x) = (v ≡ None) × P x
MeetsAt v P (Err e) = FaultsAt v e
