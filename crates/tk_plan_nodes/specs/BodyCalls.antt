-- Which nodes of a tree have a body that is called: the tests that a unit runs.
use Rattle.std.specs.Prelude.{◌≡◌, ◌≢◌, ◌⊎◌, ℕ, Bool, true, false, not, ◌&&◌, ◌==◌, All}
use Rattle.std.specs.Prelude.{List, [], ◌∷◌, ◌++◌, length, flat_map}
use Rattle.std.specs.Prelude.{Option, Some, None, is_some, option_map, if◌then◌else◌}
use Rattle.std.specs.List.{find, list_all}
use Rattle.tk_ids.specs.Characters.{slash}
use Rattle.tk_ids.specs.DTypes.{is_container, is_test}
use Rattle.tk_plan_nodes.specs.declared.body_calls.BodyCall.{BodyCall}
use Rattle.tk_plan_nodes.specs.declared.body_calls.BodyCall.TheVariants.{Called, NeverCalled}
use Rattle.tk_plan_nodes.specs.declared.body_calls.BodyCall.TheVariants.{Missing, NotNeeded}
use Rattle.tk_plan_nodes.specs.declared.body_calls.NodeBody.{NodeBody}
use Rattle.tk_plan_nodes.specs.declared.body_calls.Place.{Place}
use Rattle.tk_plan_nodes.specs.declared.body_calls.Place.TheVariants.{AboveRoot, Spine, InUnit}
use Rattle.tk_plan_nodes.specs.declared.body_calls.Place.TheVariants.{Skipped, Dynamic}
use Rattle.tk_plan_nodes.specs.declared.bodies_faults.BodiesFault.{BodiesFault}
use Rattle.tk_plan_nodes.specs.declared.bodies_faults.BodiesFault.TheVariants as faults
use Rattle.tk_plan_nodes.specs.declared.modes.ExecutionMode.{ExecutionMode}
use Rattle.tk_plan_nodes.specs.declared.modes.ExecutionMode.TheVariants.{SameThread, Concurrent}
use Rattle.tk_plan_nodes.specs.declared.plan_nodes.PlanNode.{PlanNode}
use Rattle.tk_plan_nodes.specs.declared.plan_nodes.PlanNode.TheOpen.{PlanNode-F}
use Rattle.tk_plan_nodes.specs.declared.plan_nodes.PlanNode.TheFolds.{fold-PlanNode}
use Rattle.tk_plan_nodes.specs.NodeIds.{own_id}
use Rattle.tk_plan_nodes.specs.NodeViews.{NodeView, layer_view}

-- ---- where a node stands

abbrev pub is_concurrent : ExecutionMode → Bool
is_concurrent SameThread = false
is_concurrent Concurrent = true

-- The node has children, all of them static and concurrent, and no lock, skip or isolation.
abbrev pub is_free : {A : Type 0} → NodeView A → Bool → Bool
is_free n concurrent_below =
    not (length n.children == 0) && ((length n.dynamic == 0)
    && (not (is_some n.skip) && ((length n.locks == 0)
    && (not n.is_isolated && concurrent_below))))

-- the root stands on the spine where it is free, and so does a concurrent container below the spine
abbrev pub is_on_spine : Place → Bool → Bool → Bool
is_on_spine AboveRoot concurrent_container free = free
is_on_spine Spine concurrent_container free = concurrent_container && free
is_on_spine above concurrent_container free = false

-- what stands below a skipped node is skipped, and what stands below a dynamic one is dynamic
abbrev pub place_off_spine : Place → Bool → Place
place_off_spine Skipped skipped = Skipped
place_off_spine Dynamic skipped = Dynamic
place_off_spine above true = Skipped
place_off_spine above false = InUnit

abbrev pub place_of : {A : Type 0} → Place → NodeView A → Bool → Place
place_of above n concurrent_below =
    if is_on_spine above (is_concurrent n.mode && is_container n.dtype)
    (is_free n concurrent_below)
    then Spine
    else place_off_spine above (is_some n.skip)

-- ---- whether its body is called

-- The body of a test in a unit is called, once it isn't skipped. No other body is.
abbrev pub call_of : Place → Bool → Bool → BodyCall
call_of InUnit true true = Called
call_of Skipped true true = Called
call_of place is_test true = NeverCalled
call_of InUnit true false = Missing
call_of place is_test false = NotNeeded

-- of a tree: whether its root is concurrent; and the id of each node with what holds of its body,
-- given the place above the root and the text before the root's own segment
pub record Calls : Type 0 where
  pub concurrent : Bool
  pub nodes : Place → List ℕ → List NodeBody

-- a node's own, and then those below it, the static ones before the dynamic ones
abbrev pub node_calls :
    {A : Type 0} → NodeView A → Place → List ℕ → (Place → List ℕ → List NodeBody)
    → (Place → List ℕ → List NodeBody) → List NodeBody
node_calls n place prefix children dynamic =
    record { id = own_id n prefix; call = call_of place (is_test n.dtype) (is_some n.body) }
    ∷ (children place (own_id n prefix ++ slash ∷ [])
    ++ dynamic Dynamic (own_id n prefix ++ slash ∷ []))

abbrev pub calls_of_all : List Calls → Place → List ℕ → List NodeBody
calls_of_all trees above prefix = flat_map (λ t. t.nodes above prefix) trees

abbrev pub layer_calls : PlanNode-F Calls → Calls
layer_calls layer =
    let n = layer_view layer in
    record {
      concurrent = is_concurrent n.mode;
      nodes = λ above prefix.
          node_calls n (place_of above n (list_all (λ t. t.concurrent) n.children)) prefix
          (calls_of_all n.children) (calls_of_all n.dynamic);
    }

abbrev pub calls : PlanNode → Calls
calls = fold-PlanNode Calls layer_calls

-- each node of the tree with this root, in preorder
abbrev pub calls_of : PlanNode → List NodeBody
calls_of root = (calls root).nodes AboveRoot []

-- ---- what `bodies` answers

abbrev pub same_call : BodyCall → BodyCall → Bool
same_call Called Called = true
same_call NeverCalled NeverCalled = true
same_call Missing Missing = true
same_call NotNeeded NotNeeded = true
same_call a b = false

-- the id of the first node of whose body this holds
abbrev pub first_id : BodyCall → List NodeBody → Option (List ℕ)
first_id call nodes = option_map (λ n. n.id) (find (λ n. same_call n.call call) nodes)

-- Each body is that of a test that a unit runs; and where there is one, each such test has one.
pub record AreCalled (nodes : List NodeBody) : Type 0 where
  pub called : All (λ n. n.call ≢ NeverCalled) nodes
  pub complete : All (λ n. n.call ≢ Called) nodes ⊎ All (λ n. n.call ≢ Missing) nodes

-- the first node whose body is never called; else, where a body is called, the first without one
abbrev pub IsBodiesFault : List NodeBody → BodiesFault → Type 0
IsBodiesFault nodes (faults.NeverCalled id) = first_id NeverCalled nodes ≡ Some id
IsBodiesFault nodes (faults.Missing id) =
    (first_id NeverCalled nodes ≡ None) × (is_some (first_id Called nodes) ≡ true)
    × (first_id Missing nodes ≡ Some id)
IsBodiesFault nodes faults.Memory = Unit {0}
