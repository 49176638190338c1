-- The nodes of a plan's value, in preorder.
use Rattle.std.specs.Prelude.{ℕ, zero, suc, ◌+◌, List, [], ◌∷◌, ◌++◌, Bool, true, false, codes, map}
use Rattle.std.specs.Prelude.{flat_map}
use Rattle.std.specs.List.{list_any}
use Rattle.serde_json.specs.Data.{Data}
use Rattle.serde_json.specs.Find.{get}
use Rattle.tk_ids.specs.IdText.{SegmentView}
use Rattle.tk_plan.specs.declared.trees.nodes.Node.{Node}
use Rattle.tk_ids.specs.declared.locks.Lock.{Lock}
use Rattle.tk_plan.specs.Trees.{Tree, tree, Forest, no_trees, more}
use Rattle.tk_plan_json.specs.Checks.{member_at, item_at}
use Rattle.tk_plan_json.specs.Contents.{json_text, json_optional, json_truth, json_dtype}
use Rattle.tk_plan_json.specs.Contents.{json_segment, json_concurrent, json_locks}
use Rattle.tk_plan_json.specs.Contents.{json_outcome, json_entries, files_of, repeats}
use Rattle.tk_plan_json.specs.Contents.{listed}

-- A value that stands for a node: its place as a JSON Pointer, its level, whether it is static,
-- whether it may have files as in version 2, its parent's id, and the segments of the siblings
-- before it.
pub record NodeInput : Type 0 where
  pub path : List ℕ
  pub level : ℕ
  pub is_static : Bool
  pub takes_files : Bool
  pub above : List SegmentView
  pub earlier : List SegmentView
  pub value : Data

-- the root of a plan, which is of version 2 or not
abbrev pub root_at : Bool → Data → NodeInput
root_at takes_files d = record {
  path = codes "/root";
  level = 1;
  is_static = true;
  takes_files = takes_files;
  above = [];
  earlier = [];
  value = d;
}

-- the segment in a value that stands for a node
abbrev pub segment_in : Data → SegmentView
segment_in d = json_segment (get (codes "segment") d)

abbrev pub segment_of : NodeInput → SegmentView
segment_of s = segment_in s.value

-- the parent's id with the segment at the end
abbrev pub id_of : NodeInput → List SegmentView
id_of s = s.above ++ segment_of s ∷ []

-- a dynamic node has no mode, is not isolated, and has no locks and no static children
abbrev pub concurrent_of : Bool → Data → Bool
concurrent_of true d = json_concurrent (get (codes "mode") d)
concurrent_of false d = false

abbrev pub isolated_of : Bool → Data → Bool
isolated_of true d = json_truth (get (codes "isolated") d)
isolated_of false d = false

abbrev pub locks_of : Bool → Data → List Lock
locks_of true d = json_locks (get (codes "locks") d)
locks_of false d = []

abbrev pub children_of : Bool → Data → List Data
children_of true d = listed (get (codes "children") d)
children_of false d = []

abbrev pub dynamic_of : Data → List Data
dynamic_of d = listed (get (codes "dynamic") d)

-- some entry has a key twice
abbrev pub repeats_key : Data → Bool
repeats_key d = list_any repeats (listed (get (codes "entries") d))

-- what the plan says of the node there
abbrev pub node_of : NodeInput → Node
node_of s = record {
  is_static = s.is_static;
  dtype = json_dtype (get (codes "type") s.value);
  segment = segment_of s;
  name = json_text (get (codes "name") s.value);
  is_concurrent = concurrent_of s.is_static s.value;
  is_isolated = isolated_of s.is_static s.value;
  locks = locks_of s.is_static s.value;
  skip = json_optional (get (codes "skip") s.value);
  outcome = json_outcome (get (codes "result") s.value);
  entries = json_entries (get (codes "entries") s.value);
  files = files_of s.takes_files s.value;
}

-- An array of nodes: its place as a JSON Pointer, the level of its nodes, whether they are static,
-- whether they may have files, and their parent's id.
pub record NodeArray : Type 0 where
  pub path : List ℕ
  pub level : ℕ
  pub is_static : Bool
  pub takes_files : Bool
  pub above : List SegmentView

-- the array that a node has in the member of that name
abbrev pub array_in : NodeInput → List ℕ → Bool → NodeArray
array_in s name is_static = record {
  path = member_at s.path name;
  level = s.level + 1;
  is_static = is_static;
  takes_files = s.takes_files;
  above = id_of s;
}

-- the item of that index, after siblings with the earlier segments
abbrev pub node_input : NodeArray → ℕ → List SegmentView → Data → NodeInput
node_input array index earlier d = record {
  path = item_at array.path index;
  level = array.level;
  is_static = array.is_static;
  takes_files = array.takes_files;
  above = array.above;
  earlier = earlier;
  value = d;
}

-- the items from that index on, the first of them after siblings with the earlier segments
abbrev pub node_inputs_in : NodeArray → ℕ → List SegmentView → List Data → List NodeInput
node_inputs_in array index earlier [] = []
node_inputs_in array index earlier (d ∷ ds) =
    node_input array index earlier d
    ∷ node_inputs_in array (index + 1) (earlier ++ segment_in d ∷ []) ds

-- the static children of a node, from their values
abbrev pub children_in : NodeInput → List Data → List NodeInput
children_in s cs = node_inputs_in (array_in s (codes "children") true) 0 [] cs

-- the dynamic children follow the static ones
abbrev pub dynamic_in : NodeInput → List Data → List Data → List NodeInput
dynamic_in s cs ds = node_inputs_in (array_in s (codes "dynamic") false) 0 (map segment_in cs) ds

-- the nodes right below a node: the static children, and then the dynamic ones
abbrev pub below : NodeInput → List NodeInput
below s =
    children_in s (children_of s.is_static s.value)
    ++ dynamic_in s (children_of s.is_static s.value) (dynamic_of s.value)

-- A node and all below it in preorder, of that many levels more. A level too many is a fault, so no
-- more are looked at.
unfoldable pub node_inputs : ℕ → NodeInput → List NodeInput
node_inputs zero s = s ∷ []
node_inputs (suc n) s = s ∷ flat_map (node_inputs n) (below s)

abbrev pub forest_of : List Tree → Forest
forest_of [] = no_trees
forest_of (t ∷ ts) = more t (forest_of ts)

-- a node and what is below it, before the nodes have their numbers
unfoldable pub grown : ℕ → NodeInput → Tree
grown zero s = tree (node_of s) 0 no_trees
grown (suc n) s = tree (node_of s) 0 (forest_of (map (grown n) (below s)))
