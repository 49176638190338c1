-- What a scripted engine emits: the scripts of a plan's units.
use Rattle.std.specs.Prelude.{◌≡◌, ◌<◌, ◌≤◌, ◌⊎◌, ℕ, suc, ◌+◌, ◌==◌, nat_lt, if◌then◌else◌, Bool}
use Rattle.std.specs.Prelude.{true, false, List, [], ◌∷◌, ◌++◌, length, Option, Some, None}
use Rattle.std.specs.Prelude.{slice_get}
use Rattle.tk_ids.specs.IdText.{SegmentView}
use Rattle.tk_ids.specs.Table.{unlocked}
use Rattle.tk_ids.specs.declared.descriptors.Descriptor.{Descriptor}
use Rattle.tk_ids.specs.Table.{ids_of}
use Rattle.tk_events.specs.declared.payloads.Payload.{Payload}
use Rattle.tk_events.specs.declared.payloads.Payload.TheVariants.{Nothing, Described}
use Rattle.tk_events.specs.declared.events.Event.{Event}
use Rattle.tk_events.specs.Registration.{registered_key}
use Rattle.tk_record.specs.Recorded.{Recorded}
use Rattle.tk_record.specs.Entries.{desc}
use Rattle.tk_plan.specs.declared.trees.nodes.Node.{Node}
use Rattle.tk_plan.specs.declared.trees.nodes.NumberedNode.{NumberedNode}
use Rattle.tk_plan.specs.declared.scripts.steps.Act.{Act}
use Rattle.tk_plan.specs.declared.scripts.steps.Act.TheVariants.{Register, Skip, Start, Report}
use Rattle.tk_plan.specs.declared.scripts.steps.Act.TheVariants.{File, Finish}
use Rattle.tk_plan.specs.declared.scripts.steps.Step.{Step}
use Rattle.tk_plan.specs.Trees.{forest}
use Rattle.tk_plan.specs.Cutting.{before_of, after_of, units_of, script_of, root_script}
use Rattle.tk_plan.specs.Numbers.{in_order}
use Rattle.tk_plan.specs.Ids.{ids_below}
use Rattle.tk_plan.specs.Events.{event}
use Rattle.tk_plan.specs.StepEvents.{kind_of, payload_of}
use Rattle.tk_queue_session.specs.Emission.{entries_by, registrations}
use Rattle.tk_claims.specs.Run.{IsRun}

abbrev pub is_registration : Act → Bool
is_registration (Register parent) = true
is_registration Skip = false
is_registration Start = false
is_registration (Report i) = false
is_registration (File i) = false
is_registration Finish = false

-- the id of the node of a number, where the nodes' ids stand in the order of the nodes
abbrev pub id_of : List NumberedNode → List (List SegmentView) → ℕ → List SegmentView
id_of [] ids k = []
id_of (p ∷ ps) [] k = []
id_of (p ∷ ps) (id ∷ ids) k = if p.number == k then id else id_of ps ids k

-- the id of the plan's node of a number
abbrev pub id_at : List NumberedNode → ℕ → List SegmentView
id_at nodes k = id_of nodes (ids_below [] (forest nodes)) k

-- the descriptor with which a dynamic node is registered, which declares no lock
abbrev pub registered : List SegmentView → Node → Descriptor
registered id n = unlocked id n.name n.dtype

-- the payload of a step of a node with this id: a registration has its descriptor
abbrev pub payload_for : Node → List SegmentView → Act → Payload
payload_for n id a = if is_registration a then Described (registered id n) else payload_of n a

abbrev pub payload_of_node : Option Node → List SegmentView → Act → Payload
payload_of_node None id a = Nothing
payload_of_node (Some n) id a = payload_for n id a

-- how many numbers come before that one
abbrev pub position : ℕ → List ℕ → ℕ
position k [] = 0
position k (n ∷ ns) = if n == k then 0 else suc (position k ns)

-- The key of a node: its number, where it is one of the static ones; else that of its registration,
-- where these nodes were registered and the first of them has the key base.
abbrev pub key_of : ℕ → ℕ → List ℕ → ℕ → ℕ
key_of statics base known k = if nat_lt k statics then k else base + position k known

-- the key of a step's event: a registration has the next one
abbrev pub key_for : ℕ → ℕ → List ℕ → Step → ℕ
key_for statics base known s =
    if is_registration s.act then base + length known else key_of statics base known s.node

-- the event of a step, where these nodes were registered and the first of them has the key base
abbrev pub step_event : List NumberedNode → ℕ → ℕ → List ℕ → Step → Event
step_event nodes statics base known s =
    event (kind_of s.act) (key_for statics base known s) s.stamp
    (payload_of_node (slice_get (in_order nodes) s.node) (id_at nodes s.node) s.act)

-- the nodes that are registered after a step
abbrev pub known_after : List ℕ → Step → List ℕ
known_after known s = if is_registration s.act then known ++ s.node ∷ [] else known

-- the events of these steps, one after another
abbrev pub played : List NumberedNode → ℕ → ℕ → List ℕ → List Step → List Event
played nodes statics base known [] = []
played nodes statics base known (s ∷ ss) =
    step_event nodes statics base known s
    ∷ played nodes statics base (known_after known s) ss

-- The node has a key where these nodes were registered: a static one the key of its descriptor, any
-- other that of its registration.
abbrev pub HasKey : List NumberedNode → List Descriptor → List ℕ → ℕ → Type 0
HasKey nodes table known k =
    ((k < length table) × (slice_get (ids_of table) k ≡ Some (id_at nodes k)))
    ⊎ ((length table ≤ k) × (slice_get known (position k known) ≡ Some k))

-- what a registration registers is a child of the parent, with the node's segment
abbrev pub IsChildAt : List NumberedNode → ℕ → ℕ → Type 0
IsChildAt nodes parent k =
    (n : Node) × (slice_get (in_order nodes) k ≡ Some n)
    × (id_at nodes k ≡ id_at nodes parent ++ n.segment ∷ [])

-- A registration's parent has a key, and the node is its child. The node of any other step has a
-- key.
abbrev pub IsPlayable : List NumberedNode → List Descriptor → List ℕ → ℕ → Act → Type 0
IsPlayable nodes table known k (Register parent) =
    HasKey nodes table known parent × IsChildAt nodes parent k
IsPlayable nodes table known k Skip = HasKey nodes table known k
IsPlayable nodes table known k Start = HasKey nodes table known k
IsPlayable nodes table known k (Report i) = HasKey nodes table known k
IsPlayable nodes table known k (File i) = HasKey nodes table known k
IsPlayable nodes table known k Finish = HasKey nodes table known k

-- each step can be played after those before it
abbrev pub ArePlayable : List NumberedNode → List Descriptor → List ℕ → List Step → Type 0
ArePlayable nodes table known [] = Unit {0}
ArePlayable nodes table known (s ∷ ss) =
    IsPlayable nodes table known s.node s.act × ArePlayable nodes table (known_after known s) ss

-- the nodes that are registered after these steps, where some were before
abbrev pub known_in : List ℕ → List Step → List ℕ
known_in known [] = known
known_in known (s ∷ ss) = known_in (known_after known s) ss

-- the key of the worker's next registration, after it sent these events
abbrev pub next_key : ℕ → List Event → ℕ
next_key worker sent = registered_key worker (registrations sent)

-- no key from the next registration's on, of as many registrations, has a descriptor yet
abbrev pub NextKeysAreFree : List Descriptor → ℕ → List Event → ℕ → Type 0
NextKeysAreFree table worker sent registrations =
    (j : ℕ) → j < registrations
    → desc (record { table = table; entries = entries_by worker sent }) (next_key worker sent + j)
    ≡ None

-- what a worker emitted that sent some events and then played these steps
abbrev pub record_played :
    List NumberedNode → List Descriptor → ℕ → List Event → List Step → Recorded
record_played nodes table w sent steps = record {
  table = table;
  entries = entries_by w
      (sent ++ played nodes (length table) (next_key w sent) [] steps);
}

-- unit u emits its script and nothing else
abbrev pub may : List NumberedNode → List Descriptor → ℕ → ℕ → ℕ → List Event → Type 0
may nodes table u w k l =
    l ≡ played nodes (length table) (registered_key w k) [] (script_of (forest nodes) u)

-- a record that some workers may leave who run the plan's units
abbrev pub IsRunOf : List NumberedNode → List Descriptor → ℕ → Recorded → Type 0
IsRunOf nodes table workers r =
    IsRun (may nodes table) table (before_of (forest nodes)) (after_of (forest nodes))
    (length (units_of (forest nodes))) workers r

-- the record of the root's script, as one worker would play it
abbrev pub script_record : List NumberedNode → List Descriptor → Recorded
script_record nodes table = record {
  table = table;
  entries = entries_by 1
      (played nodes (length table) (registered_key 1 0) [] (root_script (forest nodes)));
}
