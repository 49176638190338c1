-- How a tree is cut: a spine, and the units off the spine.
use Rattle.std.specs.Prelude.{ℕ, ◌+◌, ◌&&◌, ◌||◌, ◌==◌, List, [], ◌∷◌, ◌++◌, length, slice_get}
use Rattle.std.specs.Prelude.{Option, Some, None, map, flat_map, Bool, true, false, not, is_some}
use Rattle.std.specs.Prelude.{if◌then◌else◌}
use Rattle.tk_plan.specs.declared.trees.nodes.Node.{Node}
use Rattle.tk_ids.specs.DTypes.{is_container}
use Rattle.tk_events.specs.declared.events.Event.{Event}
use Rattle.tk_plan.specs.declared.scripts.steps.Act.TheVariants.{Finish}
use Rattle.tk_plan.specs.declared.scripts.steps.Move.{Move}
use Rattle.tk_plan.specs.declared.scripts.steps.Step.{Step}
use Rattle.tk_plan.specs.Trees.{Tree, tree, Forest, no_trees, more, number_of}
use Rattle.tk_plan.specs.Script.{move, moves, moves_below, opening, stamped}
use Rattle.tk_plan.specs.Events.{opening_events, finish_event}

-- nothing stands below the node
abbrev pub is_leaf : Forest → Bool
is_leaf no_trees = true
is_leaf (more t f) = false

-- no tree's node is dynamic, and each is concurrent
abbrev pub all_concurrent : Forest → Bool
all_concurrent no_trees = true
all_concurrent (more (tree n k g) f) = (n.is_static && n.is_concurrent) && all_concurrent f

-- no tree's node is dynamic
abbrev pub all_static : Forest → Bool
all_static no_trees = true
all_static (more (tree n k g) f) = n.is_static && all_static f

-- The node has children, isn't skipped, has no lock and isn't isolated; none of its children is
-- dynamic, and each is concurrent.
abbrev pub is_free : Node → Forest → Bool
is_free n f =
    not (is_leaf f) && (not (is_some n.skip)
    && ((length n.locks == 0) && (not n.is_isolated && all_concurrent f)))

-- the node of the root, or of a child of a spine node, stands on the spine
abbrev pub on_spine : Bool → Node → Forest → Bool
on_spine is_root n f = (is_root || (n.is_concurrent && is_container n.dtype)) && is_free n f

-- The root's script is made of these parts: a spine node begins (with its number), a unit runs as a
-- whole, a spine node ends.
pub data Part : Type 0 where
  spine_begins : Node → ℕ → Part
  whole_unit : Tree → Part
  spine_ends : Node → ℕ → Part

-- A spine node begins before the parts of its children and ends after them; any other tree is a
-- unit.
abbrev mutual
  pub parts : Bool → Tree → List Part
  parts is_root (tree n k f) =
      if on_spine is_root n f then spine_begins n k ∷ (parts_below false f ++ spine_ends n k ∷ [])
      else whole_unit (tree n k f) ∷ []

  pub parts_below : Bool → Forest → List Part
  parts_below is_root no_trees = []
  parts_below is_root (more t f) = parts is_root t ++ parts_below is_root f

-- what happens in a part, in its order
abbrev pub moves_of : Part → List Move
moves_of (spine_begins n k) = opening n k
moves_of (whole_unit t) = moves t
moves_of (spine_ends n k) = move k Finish ∷ []

-- the number of a spine node, where it begins
abbrev pub spine_numbers : Part → List ℕ
spine_numbers (spine_begins n k) = k ∷ []
spine_numbers (whole_unit t) = []
spine_numbers (spine_ends n k) = []

-- a unit, and how many events of the root's script come before it
pub record Piece : Type 0 where
  pub tree : Tree
  pub first : ℕ

-- the unit that a part is, if it is one, with i events before it
abbrev pub piece : ℕ → Part → List Piece
piece i (spine_begins n k) = []
piece i (whole_unit t) = record { tree = t; first = i } ∷ []
piece i (spine_ends n k) = []

-- What f gives of each part. Its first argument is the number of events before the part.
abbrev pub from_each : {A : Type 0} → (ℕ → Part → List A) → ℕ → List Part → List A
from_each f i [] = []
from_each f i (p ∷ ps) = f i p ++ from_each f (i + length (moves_of p)) ps

-- a spine node's start with its entries and files
abbrev pub begin_events : ℕ → Part → List Event
begin_events i (spine_begins n k) = opening_events k i n
begin_events i (whole_unit t) = []
begin_events i (spine_ends n k) = []

-- a spine node's finish
abbrev pub end_events : ℕ → Part → List Event
end_events i (spine_begins n k) = []
end_events i (whole_unit t) = []
end_events i (spine_ends n k) = finish_event k i n ∷ []

-- What follows takes a forest with the root alone.

-- the numbers of the spine's nodes, in preorder
abbrev pub spine_of : Forest → List ℕ
spine_of root = flat_map spine_numbers (parts_below true root)

-- the units, in the order of the root's script
abbrev pub pieces_of : Forest → List Piece
pieces_of root = from_each piece 0 (parts_below true root)

-- the numbers of the units' top nodes
abbrev pub units_of : Forest → List ℕ
units_of root = map (λ u. number_of u.tree) (pieces_of root)

-- the starts of the spine with their entries and files, in preorder
abbrev pub before_of : Forest → List Event
before_of root = from_each begin_events 0 (parts_below true root)

-- the finishes of the spine, in postorder
abbrev pub after_of : Forest → List Event
after_of root = from_each end_events 0 (parts_below true root)

-- what a unit does, with the stamps that it has in the root's script
abbrev pub steps_of : Option Piece → List Step
steps_of None = []
steps_of (Some u) = stamped u.first (moves u.tree)

-- the script of the unit with this number, empty where there is none
abbrev pub script_of : Forest → ℕ → List Step
script_of root u = steps_of (slice_get (pieces_of root) u)

-- the root's script, with its stamps
abbrev pub root_script : Forest → List Step
root_script root = stamped 0 (moves_below 0 root)
