-- What is known after the first events of a record, and what one more event makes of it.
use Rattle.std.specs.Prelude.{◌≡◌, ℕ, ◌<◌, ◌≤◌, Bool, true, false, not, ◌&&◌, ◌==◌, if◌then◌else◌}
use Rattle.std.specs.Prelude.{List, length, Option, Some, None, slice_get, bytes_eq, Result, Ok}
use Rattle.std.specs.Prelude.{Err}
use Rattle.std.specs.List.{list_any, sum_by}
use Rattle.tk_ids.specs.IdText.{SegmentView, IsId, id_text, parent_of}
use Rattle.tk_ids.specs.declared.descriptors.Descriptor.{Descriptor}
use Rattle.tk_events.specs.declared.kinds.Kind.TheVariants.{Dynamic, Finished}
use Rattle.tk_events.specs.declared.events.Entry.{Entry}
use Rattle.tk_events.specs.declared.statuses.Status.TheVariants.{Successful}
use Rattle.tk_record.specs.Entries.{of_kind, of_status, with_entry}
use Rattle.tk_record.specs.Recorded.{Recorded}
use Rattle.tk_query_lifecycle.specs.Lifecycle.{BreaksFirst, BreaksNone, HasId, has_event, has_run}
use Rattle.tk_query_lifecycle.specs.Lifecycle.{runs}
use Rattle.tk_query_lifecycle.specs.NeverRan.{EachDueKeyRuns, IsFirstNeverRun, NeverRuns}
use Rattle.tk_query_lifecycle.specs.steps.KeyStates.{key_under, ArePut, IsCounted, advanced}
use Rattle.tk_query_lifecycle.specs.steps.KeyStates.{is_running, refusal, running_child, state_of}
use Rattle.tk_query_lifecycle.specs.declared.lifecycle_rules.LifecycleRule.{LifecycleRule}
use Rattle.tk_query_lifecycle.specs.declared.lifecycle_rules.LifecycleRule.TheVariants.{
  ParentUnknown,
}
use Rattle.tk_query_lifecycle.specs.declared.lifecycle_rules.LifecycleRule.TheVariants.{
  ParentNotRunning,
}
use Rattle.tk_query_lifecycle.specs.declared.key_states.Phase.{Phase}
use Rattle.tk_query_lifecycle.specs.declared.key_states.Phase.TheVariants.{Idle, Running, Ended}
use Rattle.tk_query_lifecycle.specs.declared.key_states.Parent.{Parent}
use Rattle.tk_query_lifecycle.specs.declared.key_states.Parent.TheVariants.{Unsought, Root, Key}
use Rattle.tk_query_lifecycle.specs.declared.key_states.KeyState.{KeyState}

-- the phase of a key after these entries
abbrev pub IsPhase : List Entry → ℕ → Phase → Type 0
IsPhase entries key Idle =
    (has_run key entries ≡ false) × (has_event Finished key entries ≡ false)
IsPhase entries key Running = (runs key entries ≡ true) × (has_run key entries ≡ true)
IsPhase entries key Ended = (runs key entries ≡ false) × (has_run key entries ≡ true)

-- the parent of a key with this id: none, or the key of the id without its last segment
abbrev pub IsParent : Recorded → List SegmentView → Parent → Type 0
IsParent r id Unsought = ⊥
IsParent r id Root = length id ≡ 1
IsParent r id (Key parent) = (1 < length id) × HasId r parent (parent_of id)

-- the parent that is kept of a key: it is sought at the key's first event
abbrev pub IsParentOf : Recorded → ℕ → Parent → Type 0
IsParentOf r key Unsought = has_run key r.entries ≡ false
IsParentOf r key parent = (id : List SegmentView) × HasId r key id × IsParent r id parent

-- whether the event finishes the key successfully
abbrev pub is_success : ℕ → Entry → Bool
is_success key e = of_status Successful e && (e.event.key == key)

-- whether one of the entries finishes the key successfully
abbrev pub has_success : ℕ → List Entry → Bool
has_success key entries = list_any (is_success key) entries

-- what the states say after the entries of a record
pub record AreStates (r : Recorded) (states : List KeyState) : Type 0 where
  pub phases : (key : ℕ) → IsPhase r.entries key (state_of states key).phase
  pub successes : (key : ℕ) → (state_of states key).succeeded ≡ has_success key r.entries
  pub parents : (key : ℕ) → IsParentOf r key (state_of states key).parent
  pub children :
      (key : ℕ) → (state_of states key).running_children ≡ sum_by (running_child key) states
  -- so that their number has room: each child that runs was started by an event
  pub few_children : (key : ℕ) → (state_of states key).running_children ≤ length r.entries

-- the keys of registered ids, by their texts: those of all ids that no static descriptor has
pub record AreIds (r : Recorded) (ids : List (List ℕ × ℕ)) : Type 0 where
  pub some :
      (id : List SegmentView) (key : ℕ) → IsId id →
      key_under ids (id_text id) ≡ Some key → HasId r key id
  pub none :
      (id : List SegmentView) (key : ℕ) → IsId id →
      key_under ids (id_text id) ≡ None → HasId r key id →
      (d : Descriptor) × (slice_get r.table key ≡ Some d)
  pub unique :
      (id : List SegmentView) (j k : ℕ) → HasId r j id → HasId r k id → j ≡ k

-- what is known after the entries of a record
pub record IsProgress (r : Recorded) (states : List KeyState) (ids : List (List ℕ × ℕ)) :
    Type 0 where
  pub states_are : AreStates r states
  pub ids_are : AreIds r ids

-- what looking up an id finds
abbrev pub IsFound : Recorded → List SegmentView → Option ℕ → Type 0
IsFound r id (Some key) = HasId r key id
IsFound r id None = (key : ℕ) → ¬ HasId r key id

-- whether an event registers an id that a descriptor has already
abbrev pub IsKnownId : Recorded → Bool → List SegmentView → Bool → Type 0
IsKnownId r registers id true = (registers ≡ true) × (key : ℕ) × HasId r key id
IsKnownId r registers id false = registers ≡ true → (key : ℕ) → ¬ HasId r key id

-- what looking up the parent of an id finds
abbrev pub IsSought : Recorded → List SegmentView → Option Parent → Type 0
IsSought r id (Some parent) = IsParent r id parent
IsSought r id None = (1 < length id) × ((key : ℕ) → ¬ HasId r key (parent_of id))

-- what is found of the parent of an id, where this was known of it before
abbrev pub IsKnownParent : Recorded → List SegmentView → Parent → Option Parent → Type 0
IsKnownParent r id Unsought found = IsSought r id found
IsKnownParent r id Root found = found ≡ Some Root
IsKnownParent r id (Key parent) found = found ≡ Some (Key parent)

-- whether there is a parent, and it doesn't run
abbrev pub is_at_rest : List KeyState → Parent → Bool
is_at_rest states (Key parent) = not (is_running (state_of states parent).phase)
is_at_rest states _ = false

-- the rule that an event breaks where no descriptor has its parent's id
abbrev pub missing_parent : Bool → LifecycleRule
missing_parent registers = if registers then ParentUnknown else ParentNotRunning

-- an event, and what was recorded before it
pub record NextEvent : Type 0 where
  pub past : Recorded
  pub entry : Entry

-- an entry after those of a record
abbrev pub next_event : Recorded → Entry → NextEvent
next_event past e = record { past = past; entry = e }

-- what checking an event answers: the first rule that it breaks, or the parent of its key
abbrev pub IsChecked :
    NextEvent → List KeyState → List SegmentView → Result Parent LifecycleRule → Type 0
IsChecked next states id (Err rule) = BreaksFirst next.past next.entry rule
IsChecked next states id (Ok parent) =
    BreaksNone next.past next.entry × IsParent next.past id parent
    × IsKnownParent next.past id (state_of states next.entry.event.key).parent (Some parent)
    × (refusal next.entry.event.kind (state_of states next.entry.event.key) ≡ None)

-- the id is noted as that of the event's key, where the event registers it
abbrev pub AreNoted :
    List (List ℕ × ℕ) → List (List ℕ × ℕ) → Entry → List SegmentView → Type 0
AreNoted old new e id =
    (text : List ℕ) →
    key_under new text
    ≡ (if of_kind Dynamic e && bytes_eq text (id_text id)
    then Some e.event.key else key_under old text)

-- the states after an event of a key with this parent
abbrev pub AreAdvanced : List KeyState → List KeyState → Entry → Parent → Type 0
AreAdvanced old new e parent =
    (between : List KeyState)
    × ArePut old between e.event.key
    (advanced e parent (state_of old e.event.key))
    × IsCounted e.event.kind parent between new

-- what taking an event answers and leaves
abbrev pub IsTaken :
    NextEvent → List KeyState → List (List ℕ × ℕ) → Option LifecycleRule → Type 0
IsTaken next states ids (Some rule) = BreaksFirst next.past next.entry rule
IsTaken next states ids None =
    BreaksNone next.past next.entry × IsProgress (with_entry next.past next.entry) states ids

-- the least key that runs, or none
abbrev pub IsFirstOfRuns : Recorded → Option ℕ → Type 0
IsFirstOfRuns r (Some key) =
    (runs key r.entries ≡ true) × ((lower : ℕ) → lower < key → runs lower r.entries ≡ false)
IsFirstOfRuns r None = (key : ℕ) → runs key r.entries ≡ false

-- whether a key with this parent is due: there is none, or it finished successfully
abbrev pub is_due : List KeyState → Parent → Bool
is_due states (Key parent) = (state_of states parent).succeeded
is_due states _ = true

-- whether the key never runs
abbrev pub IsWhetherNeverRun : Recorded → ℕ → Bool → Type 0
IsWhetherNeverRun r key true = NeverRuns r key
IsWhetherNeverRun r key false = ¬ NeverRuns r key

-- the least key that never runs, or none
abbrev pub IsFirstOfNeverRun : Recorded → Option ℕ → Type 0
IsFirstOfNeverRun r (Some key) = IsFirstNeverRun r key
IsFirstOfNeverRun r None = EachDueKeyRuns r
