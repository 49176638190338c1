-- What each step of cutting adds to what was cut: parts, seen through the positions that are kept.
use Rattle.std.specs.Prelude.{◌≡◌, ◌≤◌, ℕ, suc, ◌+◌, List, [], ◌∷◌, ◌++◌, length, drop}
use Rattle.std.specs.Prelude.{flat_map}
use Rattle.tk_base.specs.declared.limits.TheConstants.{MAX_EVENTS}
use Rattle.tk_events.specs.declared.events.Event.{Event}
use Rattle.tk_plan.specs.declared.trees.nodes.NumberedNode.{NumberedNode}
use Rattle.tk_plan.specs.declared.units.cuttings.PlanUnit.{PlanUnit}
use Rattle.tk_plan.specs.declared.units.cuttings.SpineStamp.{SpineStamp}
use Rattle.tk_plan.specs.Trees.{IsForest, forest, tree, first_tree, contents}
use Rattle.tk_plan.specs.Events.{opening_events, finish_event}
use Rattle.tk_plan.specs.Cutting.{Piece}
use Rattle.tk_plan.specs.Weights.{publications, weight}
use Rattle.tk_plan.specs.LockNeeds.{IsNeed}

-- the unit whose nodes these begin with, if there is one, with the number of events before it
abbrev pub piece_of_nodes : List NumberedNode → ℕ → List Piece
piece_of_nodes [] i = []
piece_of_nodes (p ∷ ps) i = record { tree = first_tree p ps; first = i } ∷ []

-- the trees of units, from the positions of their first nodes
abbrev pub pieces_of_units : List NumberedNode → List PlanUnit → List Piece
pieces_of_units all = flat_map (λ u. piece_of_nodes (drop u.position all) u.first)

-- the start, the entries and the files of the first of some nodes
abbrev pub begin_events_at : List NumberedNode → ℕ → List Event
begin_events_at [] i = []
begin_events_at (p ∷ ps) i = opening_events p.number i p.node

-- the finish of the first of some nodes
abbrev pub end_events_at : List NumberedNode → ℕ → List Event
end_events_at [] i = []
end_events_at (p ∷ ps) i = finish_event p.number i p.node ∷ []

-- of some nodes of the spine the starts with their entries and files
abbrev pub begin_events_of_spine : List NumberedNode → List SpineStamp → List Event
begin_events_of_spine all = flat_map (λ s. begin_events_at (drop s.position all) s.stamp)

-- of some nodes of the spine the finishes
abbrev pub end_events_of_spine : List NumberedNode → List SpineStamp → List Event
end_events_of_spine all = flat_map (λ s. end_events_at (drop s.position all) s.stamp)

-- the nodes of a unit stand at its position, its need is theirs, and its events fit the limit
pub record Fits (all : List NumberedNode) (keys : List (List ℕ)) (u : PlanUnit) : Type 0 where
  pub top : NumberedNode
  pub below : List NumberedNode
  pub rest : List NumberedNode
  pub position : drop u.position all ≡ top ∷ (below ++ rest)
  pub span : top.span ≡ suc (length below)
  pub trees : IsForest below
  pub need : IsNeed keys (contents (top ∷ below)) u.need
  pub limit : u.first + weight (tree top.node top.number (forest below)) ≤ MAX_EVENTS

-- the position is that of a node
abbrev pub HasNode : List NumberedNode → SpineStamp → Type 0
HasNode all s =
    (top : NumberedNode) × (rest : List NumberedNode) × (drop s.position all ≡ top ∷ rest)

-- the position is that of a node, whose start, entries and files have stamps within the limit
pub record HasStampAt (all : List NumberedNode) (s : SpineStamp) : Type 0 where
  pub top : NumberedNode
  pub rest : List NumberedNode
  pub position : drop s.position all ≡ top ∷ rest
  pub limit : s.stamp + publications top.node ≤ MAX_EVENTS
