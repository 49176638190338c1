-- What is kept of each key while the events of a record are gone through.
use Rattle.std.specs.Prelude.{◌≡◌, ℕ, zero, suc, ◌+◌, ◌-◌, ◌<◌, Bool, true, false, ◌&&◌, ◌||◌, ◌==◌}
use Rattle.std.specs.Prelude.{if◌then◌else◌, List, [], ◌∷◌, ◌++◌, get_or, Option, Some, None}
use Rattle.std.specs.Prelude.{bytes_eq}
use Rattle.std.specs.List.{sum_by}
use Rattle.std.specs.Map.{lookup}
use Rattle.tk_events.specs.declared.kinds.Kind.{Kind}
use Rattle.tk_events.specs.declared.kinds.Kind.TheVariants.{Dynamic, Skipped, Started, Finished}
use Rattle.tk_events.specs.declared.kinds.Kind.TheVariants.{Reporting, File}
use Rattle.tk_events.specs.declared.statuses.Status.TheVariants.{Successful}
use Rattle.tk_events.specs.declared.events.Entry.{Entry}
use Rattle.tk_record.specs.Entries.{of_status}
use Rattle.tk_query_lifecycle.specs.declared.lifecycle_rules.LifecycleRule.{LifecycleRule}
use Rattle.tk_query_lifecycle.specs.declared.lifecycle_rules.LifecycleRule.TheVariants.{RanAlready}
use Rattle.tk_query_lifecycle.specs.declared.lifecycle_rules.LifecycleRule.TheVariants.{NotRunning}
use Rattle.tk_query_lifecycle.specs.declared.lifecycle_rules.LifecycleRule.TheVariants.{
  ChildRunning,
}
use Rattle.tk_query_lifecycle.specs.declared.key_states.TheConstants.{KEYS_IN_ROW}
use Rattle.tk_query_lifecycle.specs.declared.key_states.Phase.{Phase}
use Rattle.tk_query_lifecycle.specs.declared.key_states.Phase.TheVariants.{Idle, Running, Ended}
use Rattle.tk_query_lifecycle.specs.declared.key_states.Parent.{Parent}
use Rattle.tk_query_lifecycle.specs.declared.key_states.Parent.TheVariants.{Unsought, Root, Key}
use Rattle.tk_query_lifecycle.specs.declared.key_states.KeyState.{KeyState}

-- the key of a registered id, by the text of the id
abbrev pub key_under : List (List ℕ × ℕ) → List ℕ → Option ℕ
key_under entries text = lookup (bytes_eq text) entries

-- the state of a key without an event
abbrev pub idle : KeyState
idle = record { phase = Idle; succeeded = false; parent = Unsought; running_children = 0 }

-- the first n states of a row, where idle ones follow its own
unfoldable pub padded : ℕ → List KeyState → List KeyState
padded zero row = []
padded (suc n) [] = idle ∷ padded n []
padded (suc n) (s ∷ row) = s ∷ padded n row

-- the states in the order of their keys, which stand in rows of `KEYS_IN_ROW`
unfoldable pub by_key : List (List KeyState) → List KeyState
by_key [] = []
by_key (row ∷ rows) = padded KEYS_IN_ROW row ++ by_key rows

-- the state of a key
abbrev pub state_of : List KeyState → ℕ → KeyState
state_of states key = get_or states key idle

-- whether the parent is this key
abbrev pub is_key : ℕ → Parent → Bool
is_key key (Key parent) = parent == key
is_key key _ = false

abbrev pub is_running : Phase → Bool
is_running Running = true
is_running _ = false

abbrev pub is_idle : Phase → Bool
is_idle Idle = true
is_idle _ = false

-- 1 for a running child of the key, 0 for each other key
abbrev pub running_child : ℕ → KeyState → ℕ
running_child key s = if is_running s.phase && is_key key s.parent then 1 else 0

-- the phase of a key after an event of this kind
abbrev pub phase_after : Kind → Phase → Phase
phase_after Started phase = Running
phase_after Skipped phase = Ended
phase_after Finished phase = Ended
phase_after Dynamic phase = phase
phase_after Reporting phase = phase
phase_after File phase = phase

-- the state of a key after an event of it, where the parent was looked up
abbrev pub advanced : Entry → Parent → KeyState → KeyState
advanced e parent s =
    record {
      phase = phase_after e.event.kind s.phase;
      succeeded = s.succeeded || of_status Successful e;
      parent = parent;
      running_children = s.running_children;
    }

-- the rule that a start or a skip breaks at this phase of its key
abbrev pub start_refusal : Phase → Option LifecycleRule
start_refusal Idle = None
start_refusal Running = Some RanAlready
start_refusal Ended = Some RanAlready

-- the rule that a finish breaks at this phase of its key and with this number of running children
abbrev pub finish_refusal : Phase → ℕ → Option LifecycleRule
finish_refusal Idle children = Some NotRunning
finish_refusal Running children = if children == 0 then None else Some ChildRunning
finish_refusal Ended children = Some NotRunning

-- the rule that an event of this kind breaks, by the state of its key
abbrev pub refusal : Kind → KeyState → Option LifecycleRule
refusal Started s = start_refusal s.phase
refusal Skipped s = start_refusal s.phase
refusal Finished s = finish_refusal s.phase s.running_children
refusal Dynamic s = None
refusal Reporting s = None
refusal File s = None

-- the state of one key was stored
pub record ArePut (old new : List KeyState) (key : ℕ) (s : KeyState) : Type 0 where
  pub at : (k : ℕ) → state_of new k ≡ (if key == k then s else state_of old k)
  pub sums :
      (f : KeyState → ℕ) → f idle ≡ 0 →
      sum_by f new + f (state_of old key) ≡ sum_by f old + f s

-- the number of running children after an event of this kind of a child
abbrev pub children_after : Kind → ℕ → ℕ
children_after Started n = n + 1
children_after Finished n = n - 1
children_after Skipped n = n
children_after Dynamic n = n
children_after Reporting n = n
children_after File n = n

-- the state of a parent after an event of this kind of a child
abbrev pub counted : Kind → KeyState → KeyState
counted kind s =
    record {
      phase = s.phase;
      succeeded = s.succeeded;
      parent = s.parent;
      running_children = children_after kind s.running_children;
    }

-- the child was counted at its parent, where it has one
abbrev pub IsCounted : Kind → Parent → List KeyState → List KeyState → Type 0
IsCounted kind Unsought old new = new ≡ old
IsCounted kind Root old new = new ≡ old
IsCounted kind (Key parent) old new = ArePut old new parent (counted kind (state_of old parent))

-- the least key that runs, or none
abbrev pub IsFirstRunning : List KeyState → Option ℕ → Type 0
IsFirstRunning states (Some key) =
    (is_running (state_of states key).phase ≡ true)
    × ((lower : ℕ) → lower < key → is_running (state_of states lower).phase ≡ false)
IsFirstRunning states None = (key : ℕ) → is_running (state_of states key).phase ≡ false
