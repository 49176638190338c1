-- What a node of a plan in code says.
use Rattle.std.specs.Prelude.{ℕ, Bool, false, List, [], Option, None, option_map, map}
use Rattle.std.specs.Borrow.{Bor}
use Rattle.tk_ids.specs.declared.descriptors.DType.{DType}
use Rattle.tk_events.specs.declared.outcomes.Outcome.{Outcome}
use Rattle.tk_events.specs.declared.outcomes.Outcome.TheVariants.{Successful}
use Rattle.tk_plan_nodes.specs.declared.modes.ExecutionMode.{ExecutionMode}
use Rattle.tk_plan_nodes.specs.declared.modes.ExecutionMode.TheVariants.{SameThread}
use Rattle.tk_plan_nodes.specs.declared.plan_nodes.PlanLock.{PlanLock}
use Rattle.tk_plan_nodes.specs.declared.plan_nodes.PlanNode.{PlanNode}
use Rattle.tk_plan_nodes.specs.declared.plan_nodes.PlanNode.TheOpen.{PlanNode-F}
use Rattle.tk_plan_nodes.specs.declared.plan_nodes.PlanNode.TheViews.{out-PlanNode}

-- what a node says: its members in JSON, and the number of its body; with an A for each node below
pub record NodeView (A : Type 0) : Type 0 where
  pub dtype : DType
  pub tag : List ℕ
  pub value : List ℕ
  pub name : List ℕ
  pub mode : ExecutionMode
  pub is_isolated : Bool
  pub locks : List PlanLock
  pub skip : Option (List ℕ)
  pub outcome : Outcome
  pub entries : List (List (List ℕ × List ℕ))
  pub files : List (List ℕ)
  pub children : List A
  pub dynamic : List A
  pub body : Option ℕ

abbrev pub text_of : Option (Bor (List ℕ)) → Option (List ℕ)
text_of text = option_map (λ t. t.now) text

abbrev pub texts_of : List (Bor (List ℕ)) → List (List ℕ)
texts_of texts = map (λ t. t.now) texts

abbrev pub pairs_of : List (Bor (List ℕ) × Bor (List ℕ)) → List (List ℕ × List ℕ)
pairs_of pairs = map (λ p. (p.0.now, p.1.now)) pairs

-- one layer of a node
abbrev pub layer_view : {A : Type 0} → PlanNode-F A → NodeView A
layer_view n = record {
  dtype = n.dtype;
  tag = n.tag.now;
  value = n.value.now;
  name = n.name.now;
  mode = n.mode;
  is_isolated = n.is_isolated;
  locks = n.locks.items;
  skip = text_of n.skip;
  outcome = n.outcome;
  entries = map (λ e. pairs_of e.items) n.entries.items;
  files = texts_of n.files.items;
  children = n.children.items;
  dynamic = n.dynamic.items;
  body = n.body;
}

abbrev pub node_view : PlanNode → NodeView PlanNode
node_view n = layer_view (out-PlanNode n)

-- A node alone that runs in its parent's thread, asks for no lock, succeeds, and has no body.
abbrev pub plain : DType → Bor (List ℕ) × Bor (List ℕ) → Bor (List ℕ) → NodeView PlanNode
plain dtype segment name = record {
  dtype = dtype;
  tag = segment.0.now;
  value = segment.1.now;
  name = name.now;
  mode = SameThread;
  is_isolated = false;
  locks = [];
  skip = None;
  outcome = Successful;
  entries = [];
  files = [];
  children = [];
  dynamic = [];
  body = None;
}
