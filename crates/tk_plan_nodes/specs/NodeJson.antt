-- The JSON value that says the same as a node of a plan in code.
use Rattle.std.specs.Prelude.{ℕ, Bool, true, false, List, [], ◌∷◌, ◌++◌, Option, Some, None}
use Rattle.std.specs.Prelude.{codes, map}
use Rattle.serde_json.specs.Data.{Data, boolean, number, unsigned, string, array, object}
use Rattle.serde_json.specs.Data.{Members, no_members, put}
use Rattle.serde_json.specs.View.{items_of}
use Rattle.tk_ids.specs.declared.descriptors.DType.{DType}
use Rattle.tk_ids.specs.declared.descriptors.DType.TheVariants.{Container, Test, Both}
use Rattle.tk_ids.specs.declared.locks.LockMode.{LockMode}
use Rattle.tk_ids.specs.declared.locks.LockMode.TheVariants.{Read, ReadWrite}
use Rattle.tk_events.specs.Outcomes.{message_of, status_of}
use Rattle.tk_events.specs.declared.outcomes.Outcome.{Outcome}
use Rattle.tk_events.specs.declared.statuses.Status.{Status}
use Rattle.tk_events.specs.declared.statuses.Status.TheVariants.{Successful, Aborted, Failed}
use Rattle.tk_plan_nodes.specs.declared.modes.ExecutionMode.{ExecutionMode}
use Rattle.tk_plan_nodes.specs.declared.modes.ExecutionMode.TheVariants.{SameThread, Concurrent}
use Rattle.tk_plan_nodes.specs.declared.plan_nodes.PlanLock.{PlanLock}
use Rattle.tk_plan_nodes.specs.declared.plan_nodes.PlanNode.{PlanNode}
use Rattle.tk_plan_nodes.specs.declared.plan_nodes.PlanNode.TheOpen.{PlanNode-F}
use Rattle.tk_plan_nodes.specs.declared.plan_nodes.PlanNode.TheFolds.{fold-PlanNode}
use Rattle.tk_plan_nodes.specs.NodeViews.{NodeView, layer_view}

-- a member's name and its value
abbrev pub NamedJson : Type 0
NamedJson = List ℕ × Data

-- an object's members, with some that are put among them
abbrev pub with_members : Members → List NamedJson → Members
with_members found [] = found
with_members found (m ∷ ms) = with_members (put m.0 m.1 found) ms

abbrev pub json_object : List NamedJson → Data
json_object ms = object (with_members no_members ms)

abbrev pub json_array : List Data → Data
json_array js = array (items_of js)

-- an array of two texts
abbrev pub json_pair : List ℕ × List ℕ → Data
json_pair p = json_array (string p.0 ∷ string p.1 ∷ [])

-- ---- members that are left out where they would say what a plan takes where they are missing

-- an array, left out where it is empty
abbrev pub array_members : List ℕ → List Data → List NamedJson
array_members name [] = []
array_members name (j ∷ js) = (name, json_array (j ∷ js)) ∷ []

-- a text, left out where there is none
abbrev pub text_members : List ℕ → Option (List ℕ) → List NamedJson
text_members name None = []
text_members name (Some text) = (name, string text) ∷ []

-- the mode, left out where the node runs in its parent's thread
abbrev pub mode_members : ExecutionMode → List NamedJson
mode_members SameThread = []
mode_members Concurrent = (codes "mode", string (codes "concurrent")) ∷ []

-- whether the node is isolated, left out where it isn't
abbrev pub isolated_members : Bool → List NamedJson
isolated_members false = []
isolated_members true = (codes "isolated", boolean true) ∷ []

-- ---- words

abbrev pub dtype_word : DType → List ℕ
dtype_word Container = codes "container"
dtype_word Test = codes "test"
dtype_word Both = codes "both"

abbrev pub lock_mode_word : LockMode → List ℕ
lock_mode_word Read = codes "read"
lock_mode_word ReadWrite = codes "read_write"

abbrev pub status_word : Status → List ℕ
status_word Successful = codes "successful"
status_word Aborted = codes "aborted"
status_word Failed = codes "failed"

-- ---- values of members

abbrev pub lock_json : PlanLock → Data
lock_json l =
    json_object ((codes "key", string l.key.now) ∷ (codes "mode", string (lock_mode_word l.mode))
    ∷ [])

abbrev pub result_json : Outcome → Data
result_json outcome =
    json_object ((codes "status", string (status_word (status_of outcome)))
    ∷ text_members (codes "message") (message_of outcome))

abbrev pub entry_json : List (List ℕ × List ℕ) → Data
entry_json pairs = json_array (map json_pair pairs)

-- ---- nodes

-- the members that each node has to have
abbrev pub heading_members : {A : Type 0} → NodeView A → List NamedJson
heading_members n =
    (codes "type", string (dtype_word n.dtype))
    ∷ (codes "segment", json_pair (n.tag, n.value))
    ∷ (codes "name", string n.name)
    ∷ []

-- the members that say when a node may run
abbrev pub concurrency_members : {A : Type 0} → NodeView A → List NamedJson
concurrency_members n =
    mode_members n.mode ++ isolated_members n.is_isolated
    ++ array_members (codes "locks") (map lock_json n.locks)

-- the members that say what it emits
abbrev pub content_members : {A : Type 0} → NodeView A → List NamedJson
content_members n =
    text_members (codes "skip") n.skip ++ (codes "result", result_json n.outcome)
    ∷ array_members (codes "entries") (map entry_json n.entries)
    ++ array_members (codes "files") (map string n.files)

-- the object of a node, given the objects of those below it
abbrev pub view_json : NodeView Data → Data
view_json n =
    json_object (heading_members n ++ concurrency_members n ++ content_members n
    ++ array_members (codes "children") n.children ++ array_members (codes "dynamic") n.dynamic)

abbrev pub layer_json : PlanNode-F Data → Data
layer_json n = view_json (layer_view n)

abbrev pub node_json : PlanNode → Data
node_json = fold-PlanNode Data layer_json

-- the value of the JSON, of version 2, that says the same as the plan with this root
abbrev pub plan_data : PlanNode → Data
plan_data root =
    json_object ((codes "version", number (unsigned 2)) ∷ (codes "root", node_json root) ∷ [])
