-- What private clauses and proofs alone name.
use Rattle.std.specs.Prelude.{◌≡◌, ℕ, suc, List, ◌∷◌, ◌++◌, length, drop, [], None, ◌+◌, is_some}
use Rattle.std.specs.Prelude.{if◌then◌else◌, map, flat_map, All}
use Rattle.tk_plan.specs.declared.trees.nodes.NumberedNode.{NumberedNode}
use Rattle.tk_plan.specs.declared.trees.nodes.Node.{Node}
use Rattle.tk_plan.specs.Weights.{publications}
use Rattle.std.specs.Int.{bit_at}
use Rattle.tk_locks.specs.Needs.{Access, access_of}
use Rattle.tk_plan.specs.declared.units.needs.NeedMasks.{NeedMasks}
use Rattle.tk_plan.specs.declared.units.cuttings.Cutting.{Cutting}
use Rattle.tk_plan.specs.Trees.{number_of}
use Rattle.tk_plan.specs.Cutting.{Part, spine_numbers, piece, from_each, begin_events, end_events}
use Rattle.tk_plan.specs.Cutting.{moves_of}
use Rattle.tk_plan.specs.CuttingSteps.{pieces_of_units, begin_events_of_spine, end_events_of_spine}
use Rattle.tk_plan.specs.CuttingSteps.{Fits, HasNode, HasStampAt}

-- a tree stands at the position
pub record HasTreeAt (all : List NumberedNode) (at : ℕ) : Type 0 where
  pub top : NumberedNode
  pub below : List NumberedNode
  pub rest : List NumberedNode
  pub position : drop at all ≡ top ∷ (below ++ rest)
  pub span : top.span ≡ suc (length below)

-- a node that starts, finishes and does nothing else
pub record IsShort (n : Node) (below : List NumberedNode) : Type 0 where
  pub alone : below ≡ []
  pub runs : n.skip ≡ None
  pub no_entries : n.entries ≡ []
  pub no_files : n.files ≡ []

-- how many moves a node makes by itself, its registration among them
abbrev pub own : Node → ℕ
own n = (if n.is_static then 0 else 1) + (if is_some n.skip then 1 else 2 + publications n)

abbrev pub access_of_masks : NeedMasks → ℕ → Access
access_of_masks m r = access_of (bit_at m.reads r) (bit_at m.writes r)

-- the nodes of a plan, and its lock keys
pub record KeyedNodes : Type 0 where
  pub nodes : List NumberedNode
  pub keys : List (List ℕ)

abbrev pub keyed : List NumberedNode → List (List ℕ) → KeyedNodes
keyed nodes keys = record { nodes = nodes; keys = keys }

-- these parts were added: to the spine's numbers, the units, and the stamps of starts and finishes
pub record AddsParts (plan : KeyedNodes) (old new : Cutting) (ps : List Part) : Type 0 where
  pub spine : new.spine.items ≡ old.spine.items ++ flat_map spine_numbers ps
  pub unit_keys : new.unit_keys.items ≡ old.unit_keys.items
      ++ map (λ u. number_of u.tree) (from_each piece old.event_count ps)
  pub units : pieces_of_units plan.nodes new.units.items
      ≡ pieces_of_units plan.nodes old.units.items
      ++ from_each piece old.event_count ps
  pub fits : All (Fits plan.nodes plan.keys) old.units.items
      → All (Fits plan.nodes plan.keys) new.units.items
  pub begin_events_of_spine : begin_events_of_spine plan.nodes new.starts.items
      ≡ begin_events_of_spine plan.nodes old.starts.items
      ++ from_each begin_events old.event_count ps
  pub starts : All (HasStampAt plan.nodes) old.starts.items
      → All (HasStampAt plan.nodes) new.starts.items
  pub end_events_of_spine : end_events_of_spine plan.nodes new.finishes.items
      ≡ end_events_of_spine plan.nodes old.finishes.items ++ from_each end_events old.event_count ps
  pub finishes : All (HasNode plan.nodes) old.finishes.items
      → All (HasNode plan.nodes) new.finishes.items
  pub event_count : new.event_count ≡ old.event_count + length (flat_map moves_of ps)

-- nodes that stand at a position among those of a plan, and the plan's lock keys
pub record PlacedNodes : Type 0 where
  pub position : ℕ
  pub nodes : List NumberedNode
  pub keys : List (List ℕ)

abbrev pub placed : ℕ → List NumberedNode → List (List ℕ) → PlacedNodes
placed position nodes keys = record { position = position; nodes = nodes; keys = keys }

-- cutting these nodes adds these parts
abbrev pub AddsPartsAt : PlacedNodes → Cutting → Cutting → List Part → Type 0
AddsPartsAt p old new ps =
    (all rest : List NumberedNode) → drop p.position all ≡ p.nodes ++ rest
    → AddsParts (keyed all p.keys) old new ps
