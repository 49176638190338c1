-- What private clauses and proofs alone name.
use Rattle.std.specs.Prelude.{ℕ, ◌+◌, ◌==◌, nat_lt, nat_eq, if◌then◌else◌, List, [], ◌∷◌, Option}
use Rattle.std.specs.Prelude.{Some, None, ◌≡◌, ◌++◌, length, Ok, slice_get}
use Rattle.std.specs.Option.{option_or}
use Rattle.indexmap.specs.IndexMap.{get}
use Rattle.tk_engine_scripted.specs.declared.keys.Keys.{Keys}
use Rattle.tk_ids.specs.declared.descriptors.Descriptor.{Descriptor}
use Rattle.tk_events.specs.declared.events.Event.{Event}
use Rattle.tk_queue_session.specs.Senders.{SenderView, sends}
use Rattle.tk_queue_session.specs.Registering.{IsRegisteredAs}
use Rattle.tk_plan.specs.declared.trees.nodes.Node.{Node}
use Rattle.tk_plan.specs.Numbers.{in_order}
use Rattle.tk_plan.specs.Events.{event}
use Rattle.tk_plan.specs.StepEvents.{kind_of, payload_of}
use Rattle.tk_plan.specs.declared.trees.nodes.NumberedNode.{NumberedNode}
use Rattle.tk_plan.specs.declared.scripts.steps.Step.{Step}
use Rattle.tk_run_laws.specs.Scripts.{NextKeysAreFree, known_in, next_key, played}

-- the key of a node, if it was noted
abbrev pub kept : Keys → ℕ → Option ℕ
kept keys node = get nat_eq keys.by_node node

-- the key of a node, where these nodes were registered and the first has the key base
abbrev pub key_in : ℕ → List ℕ → ℕ → Option ℕ
key_in base [] node = None
key_in base (n ∷ ns) node = if n == node then Some base else key_in (base + 1) ns node

-- the keys with one more, unless the node has one
abbrev pub noted : (ℕ → Option ℕ) → ℕ → ℕ → ℕ → Option ℕ
noted keys node key other = option_or (keys other) (if node == other then Some key else None)

-- the key of a node: its number, where it is below the number of static ones, else that of its
-- registration
abbrev pub key_found : ℕ → (ℕ → Option ℕ) → ℕ → Option ℕ
key_found statics keys node = if nat_lt node statics then Some node else keys node

-- what a worker plays a unit's script with: a plan's nodes and table, its number, and what it had
-- sent before
pub record Begun : Type 0 where
  pub nodes : List NumberedNode
  pub table : List Descriptor
  pub worker : ℕ
  pub sent : List Event

abbrev pub begun : List NumberedNode → List Descriptor → ℕ → List Event → Begun
begun nodes table worker sent =
    record { nodes = nodes; table = table; worker = worker; sent = sent }

-- the first key that the worker registers for the unit
abbrev pub first_key : Begun → ℕ
first_key b = next_key b.worker b.sent

-- After what the worker had sent it played these steps of a plan's script, and their registrations
-- have these keys, which no descriptor had before.
pub record IsPlayed (b : Begun) (prefix : List Step) (now : List Event) (keys : ℕ → Option ℕ) :
    Type 0 where
  pub emitted : now ≡ b.sent ++ played b.nodes (length b.table) (first_key b) [] prefix
  pub keys_are : (node : ℕ) → keys node ≡ key_in (first_key b) (known_in [] prefix) node
  pub unused : NextKeysAreFree b.table b.worker b.sent (length (known_in [] prefix))

-- the sink took the event of a step under that key
pub record IsEmitted (nodes : List NumberedNode) (old new : SenderView) (s : Step) (key : ℕ) :
    Type 0 where
  pub node : Node
  pub is : slice_get (in_order nodes) s.node ≡ Some node
  pub sent : new ≡ sends old (event (kind_of s.act) key s.stamp (payload_of node s.act))

-- the sink registered the node of a step below the descriptor with the key above
pub record IsRegistered (nodes : List NumberedNode) (old new : SenderView) (s : Step)
    (above key : ℕ) : Type 0 where
  pub node : Node
  pub is : slice_get (in_order nodes) s.node ≡ Some node
  pub registered :
      IsRegisteredAs old new
      (record {
        parent = above;
        segment = node.segment;
        name = node.name;
        dtype = node.dtype;
        stamp = s.stamp;
      })
      (Ok key)
