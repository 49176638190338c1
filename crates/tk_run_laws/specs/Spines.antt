-- What a plan has around its units: the spine and its events.
use Rattle.std.specs.Prelude.{◌≡◌, ◌⊎◌, ℕ, ◌+◌, ◌<◌, ◌≤◌, List, ◌++◌, Some, true}
use Rattle.std.specs.Prelude.{All, length, slice_get}
use Rattle.tk_ids.specs.declared.descriptors.Descriptor.{Descriptor}
use Rattle.tk_events.specs.declared.events.Event.{Event}
use Rattle.tk_query_lifecycle.specs.KeepsLifecycle.{KeepsLifecycle}
use Rattle.tk_query_lifecycle.specs.Lifecycle.{runs}
use Rattle.tk_queue_session.specs.Emission.{entries_by, is_plain}
use Rattle.tk_plan.specs.declared.trees.nodes.NumberedNode.{NumberedNode}
use Rattle.tk_plan.specs.Trees.{Tree, flat, forest, number_of}
use Rattle.tk_plan.specs.Cutting.{Piece, after_of, before_of, pieces_of, spine_of}
use Rattle.tk_plan.specs.Numbers.{IsNumbered, of_kind}
use Rattle.tk_plan.specs.Planned.{IsPlanned}

-- how many of the nodes are static
abbrev pub count_static : List NumberedNode → ℕ
count_static nodes = length (of_kind true nodes)

-- the keys of the tree's static nodes follow one another: the first one after the last
abbrev pub end_of : Tree → ℕ
end_of t = number_of t + count_static (flat t)

-- the node with this key stands on the spine
abbrev pub IsOnSpine : List NumberedNode → ℕ → Type 0
IsOnSpine nodes key = (i : ℕ) × (slice_get (spine_of (forest nodes)) i ≡ Some key)

-- the key is one of those of the static nodes of the unit of this number
pub record IsOfUnit (nodes : List NumberedNode) (unit key : ℕ) : Type 0 where
  pub piece : Piece
  pub its : slice_get (pieces_of (forest nodes)) unit ≡ Some piece
  pub from_first : number_of piece.tree ≤ key
  pub before_end : key < end_of piece.tree

-- each static node stands on the spine or in a unit, and none does both
pub record ArePlaced (nodes : List NumberedNode) (table : List Descriptor) : Type 0 where
  pub placed : (key : ℕ) → key < length table
      → IsOnSpine nodes key ⊎ ((unit : ℕ) × IsOfUnit nodes unit key)
  pub apart : (unit key : ℕ) → IsOnSpine nodes key → ¬ IsOfUnit nodes unit key
  pub within : (unit : ℕ) (piece : Piece) → slice_get (pieces_of (forest nodes)) unit ≡ Some piece
      → end_of piece.tree ≤ length table

abbrev pub NodesArePlaced : Type 0
NodesArePlaced =
    (nodes : List NumberedNode) (table : List Descriptor)
    → IsPlanned nodes table → IsNumbered nodes → ArePlaced nodes table

-- an event of a node on the spine, which is lawful and registers nothing
abbrev pub IsSpineEvent : List NumberedNode → List Descriptor → Event → Type 0
IsSpineEvent nodes table e =
    IsOnSpine nodes e.key × (e.key < length table) × (is_plain e ≡ true)

-- around the units are events of the spine
abbrev pub SpineEmits : Type 0
SpineEmits =
    (nodes : List NumberedNode) (table : List Descriptor)
    → IsPlanned nodes table → IsNumbered nodes
    → All (IsSpineEvent nodes table) (before_of (forest nodes) ++ after_of (forest nodes))

-- each node on the spine runs after the events before the units
abbrev pub SpineRuns : Type 0
SpineRuns =
    (nodes : List NumberedNode) (key : ℕ) → IsOnSpine nodes key
    → runs key (entries_by 0 (before_of (forest nodes))) ≡ true

-- the events around the units keep the lifecycle by themselves
abbrev pub SpineKeepsLifecycle : Type 0
SpineKeepsLifecycle =
    (nodes : List NumberedNode) (table : List Descriptor)
    → IsPlanned nodes table → IsNumbered nodes
    → KeepsLifecycle (record {
      table = table;
      entries = entries_by 0 (before_of (forest nodes)) ++ entries_by 0 (after_of (forest nodes));
    })
