-- What a plan is.
use Rattle.std.specs.Prelude.{◌≡◌, ◌≤◌, ◌<◌, ◌&&◌, ℕ, List, [], Option, Some, None, Bool, true}
use Rattle.std.specs.Prelude.{false, slice_get, length, ◌++◌}
use Rattle.std.specs.List.{list_all}
use Rattle.tk_base.specs.declared.limits.TheConstants.{MAX_EVENTS}
use Rattle.tk_ids.specs.declared.tables.TheConstants.{MAX_DESCRIPTORS}
use Rattle.tk_plan.specs.declared.units.needs.TheConstants.{MAX_KEYS}
use Rattle.tk_ids.specs.declared.descriptors.Descriptor.{Descriptor}
use Rattle.tk_events.specs.declared.kinds.Kind.TheVariants.{Reporting, File}
use Rattle.tk_events.specs.declared.payloads.Payload.TheVariants.{Report, Path}
use Rattle.tk_events.specs.Event.{is_lawful}
use Rattle.tk_locks.specs.NeedView.{NeedView}
use Rattle.tk_locks.specs.Words.{packed}
use Rattle.tk_locks.specs.Needs.{Access, nothing, access, weight}
use Rattle.tk_plan.specs.declared.trees.nodes.Node.{Node}
use Rattle.tk_plan.specs.declared.trees.nodes.NumberedNode.{NumberedNode}
use Rattle.tk_plan.specs.Trees.{Forest, no_trees, more, tree, IsForest, forest, contents}
use Rattle.tk_plan.specs.Trees.{flat}
use Rattle.tk_plan.specs.Script.{moves_below}
use Rattle.tk_plan.specs.Cutting.{Piece, pieces_of}
use Rattle.tk_plan.specs.LockNeeds.{nodes_ask}
use Rattle.tk_plan.specs.Keys.{lock_keys}
use Rattle.tk_plan.specs.Numbers.{of_kind}
use Rattle.tk_plan.specs.Ids.{ids_below, descriptors_below, AreDistinct}

-- what a clause sees of a plan: its nodes in preorder, and the descriptors of the static ones
pub record Outline : Type 0 where
  pub nodes : List NumberedNode
  pub table : List Descriptor

-- one tree, whose root is static
abbrev pub is_rooted : Forest → Bool
is_rooted no_trees = false
is_rooted (more (tree n k g) no_trees) = n.is_static
is_rooted (more (tree n k g) (more t f)) = false

-- the events that the node gives may be sent
abbrev pub is_lawful_node : Node → Bool
is_lawful_node n =
    list_all (λ e. is_lawful Reporting (Report e)) n.entries
    && list_all (λ p. is_lawful File (Path p)) n.files

-- A tree under one static root. No two of its nodes have one id, and its static nodes are those of
-- the table, in preorder.
-- Nothing of it speaks of the nodes' numbers.
pub record IsPlanned (nodes : List NumberedNode) (table : List Descriptor) : Type 0 where
  pub trees : IsForest nodes
  pub root : is_rooted (forest nodes) ≡ true
  pub lawful : list_all is_lawful_node (contents nodes) ≡ true
  pub distinct : AreDistinct (ids_below [] (forest nodes))
  pub described : table ≡ descriptors_below [] (forest nodes)
  pub few_static : length table ≤ MAX_DESCRIPTORS
  pub few_dynamic : length (of_kind false nodes) ≤ MAX_DESCRIPTORS
  pub few_keys : length (lock_keys (contents nodes)) ≤ MAX_KEYS
  pub few_events : length (moves_below 0 (forest nodes)) ≤ MAX_EVENTS

-- what the nodes of a unit ask of a resource
abbrev pub piece_asks : List (List ℕ) → Option Piece → ℕ → Access
piece_asks keys None r = nothing
piece_asks keys (Some u) r = nodes_ask keys (contents (flat u.tree)) r

-- what the nodes of the plan's unit of this number ask of a resource
abbrev pub unit_asks : List NumberedNode → ℕ → ℕ → Access
unit_asks nodes unit r =
    piece_asks (lock_keys (contents nodes)) (slice_get (pieces_of (forest nodes)) unit) r

-- the need asks what the nodes of the unit ask
abbrev pub IsNeedOf : List NumberedNode → ℕ → NeedView → Type 0
IsNeedOf nodes unit w = (r : ℕ) → r < 16 → access w r ≡ unit_asks nodes unit r

-- the need of a unit as a word
abbrev pub need_word : List NumberedNode → ℕ → ℕ
need_word nodes unit = packed 16 (λ r. weight (unit_asks nodes unit r))

-- one list stands within another, without a gap
abbrev pub IsWithin : {A : Type 0} → List A → List A → Type 0
IsWithin {A} xs all = (before : List A) × (after : List A) × (all ≡ before ++ (xs ++ after))
