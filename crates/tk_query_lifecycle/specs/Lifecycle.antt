-- What a listener of an engine may rely on: the rules of each event, and what a record keeps of
-- them.
use Rattle.std.specs.Prelude.{◌≡◌, ℕ, ◌<◌, Bool, true, false, not, ◌&&◌, ◌||◌, ◌==◌, List, length}
use Rattle.std.specs.Prelude.{take, Some, slice_get}
use Rattle.std.specs.List.{list_any}
use Rattle.tk_ids.specs.IdText.{SegmentView, parent_of}
use Rattle.tk_ids.specs.declared.descriptors.Descriptor.{Descriptor}
use Rattle.tk_events.specs.declared.kinds.Kind.{Kind}
use Rattle.tk_events.specs.declared.kinds.Kind.TheVariants.{Dynamic, Skipped, Started, Finished}
use Rattle.tk_events.specs.declared.events.Entry.{Entry}
use Rattle.tk_record.specs.Entries.{of_kind, desc, with_entry}
use Rattle.tk_record.specs.Recorded.{Recorded}
use Rattle.tk_query_lifecycle.specs.NeverRan.{EachDueKeyRuns, IsFirstNeverRun}
use Rattle.tk_query_lifecycle.specs.declared.lifecycle_rules.Lifecycle.{Lifecycle}
use Rattle.tk_query_lifecycle.specs.declared.lifecycle_rules.Lifecycle.TheVariants.{Kept, Broken}
use Rattle.tk_query_lifecycle.specs.declared.lifecycle_rules.Lifecycle.TheVariants.{Unfinished}
use Rattle.tk_query_lifecycle.specs.declared.lifecycle_rules.Lifecycle.TheVariants.{NeverRan}
use Rattle.tk_query_lifecycle.specs.declared.lifecycle_rules.LifecycleRule.{LifecycleRule}
use Rattle.tk_query_lifecycle.specs.declared.lifecycle_rules.LifecycleRule.TheVariants.{IdKnown}
use Rattle.tk_query_lifecycle.specs.declared.lifecycle_rules.LifecycleRule.TheVariants.{
  ParentUnknown,
}
use Rattle.tk_query_lifecycle.specs.declared.lifecycle_rules.LifecycleRule.TheVariants.{
  ParentNotRunning,
}
use Rattle.tk_query_lifecycle.specs.declared.lifecycle_rules.LifecycleRule.TheVariants.{RanAlready}
use Rattle.tk_query_lifecycle.specs.declared.lifecycle_rules.LifecycleRule.TheVariants.{NotRunning}
use Rattle.tk_query_lifecycle.specs.declared.lifecycle_rules.LifecycleRule.TheVariants.{
  ChildRunning,
}

-- whether the event is of this kind and of this key
abbrev pub is_event : Kind → ℕ → Entry → Bool
is_event kind key e = of_kind kind e && (e.event.key == key)

-- whether one of the entries is an event of this kind and of this key
abbrev pub has_event : Kind → ℕ → List Entry → Bool
has_event kind key entries = list_any (is_event kind key) entries

-- whether the key was started or skipped
abbrev pub has_run : ℕ → List Entry → Bool
has_run key entries = has_event Started key entries || has_event Skipped key entries

-- whether the key runs after these entries: it was started, and not finished
abbrev pub runs : ℕ → List Entry → Bool
runs key entries = has_event Started key entries && not (has_event Finished key entries)

-- the descriptor of the key has this id
pub record HasId (r : Recorded) (key : ℕ) (id : List SegmentView) : Type 0 where
  pub descriptor : Descriptor
  pub described : desc r key ≡ Some descriptor
  pub id_is : descriptor.id ≡ id

-- a registration of an id that a descriptor has already, static or registered
pub record KnowsId (past : Recorded) (e : Entry) : Type 0 where
  pub dynamic : of_kind Dynamic e ≡ true
  pub id : List SegmentView
  pub registered : HasId (with_entry past e) e.event.key id
  pub earlier : ℕ
  pub known : HasId past earlier id

-- a registration of an id with a parent's id that no descriptor has
pub record KnowsNoParent (past : Recorded) (e : Entry) : Type 0 where
  pub dynamic : of_kind Dynamic e ≡ true
  pub id : List SegmentView
  pub registered : HasId (with_entry past e) e.event.key id
  pub below : 1 < length id
  pub unknown : (key : ℕ) → ¬ HasId past key (parent_of id)

-- an event of a key whose id has a parent's id, where no key with the parent's id runs
pub record HasNoRunningParent (past : Recorded) (e : Entry) : Type 0 where
  pub id : List SegmentView
  pub its : HasId (with_entry past e) e.event.key id
  pub below : 1 < length id
  pub at_rest : (key : ℕ) → HasId past key (parent_of id) → runs key past.entries ≡ false

-- a start or a skip of a key that was started or skipped
pub record RunsAgain (past : Recorded) (e : Entry) : Type 0 where
  pub begins : (of_kind Started e || of_kind Skipped e) ≡ true
  pub ran : has_run e.event.key past.entries ≡ true

-- a finish of a key that doesn't run
pub record EndsNothing (past : Recorded) (e : Entry) : Type 0 where
  pub ends : of_kind Finished e ≡ true
  pub at_rest : runs e.event.key past.entries ≡ false

-- a finish of a key of which a child runs
pub record LeavesChild (past : Recorded) (e : Entry) : Type 0 where
  pub ends : of_kind Finished e ≡ true
  pub child : ℕ
  pub id : List SegmentView
  pub child_is : HasId past child id
  pub below : 1 < length id
  pub parent : HasId past e.event.key (parent_of id)
  pub running : runs child past.entries ≡ true

-- the event, after the entries of a record, breaks the rule
abbrev pub Breaks : Recorded → Entry → LifecycleRule → Type 0
Breaks past e IdKnown = KnowsId past e
Breaks past e ParentUnknown = KnowsNoParent past e
Breaks past e ParentNotRunning = HasNoRunningParent past e
Breaks past e RanAlready = RunsAgain past e
Breaks past e NotRunning = EndsNothing past e
Breaks past e ChildRunning = LeavesChild past e

-- the rules' order
abbrev pub rank : LifecycleRule → ℕ
rank IdKnown = 0
rank ParentUnknown = 1
rank ParentNotRunning = 2
rank RanAlready = 3
rank NotRunning = 4
rank ChildRunning = 5

-- the event breaks this rule, and none before it
pub record BreaksFirst (past : Recorded) (e : Entry) (rule : LifecycleRule) : Type 0 where
  pub broken : Breaks past e rule
  pub first : (other : LifecycleRule) → rank other < rank rule → ¬ Breaks past e other

-- the event breaks no rule
abbrev pub BreaksNone : Recorded → Entry → Type 0
BreaksNone past e = (rule : LifecycleRule) → ¬ Breaks past e rule

-- the record with its first n entries alone
abbrev pub first_entries : ℕ → Recorded → Recorded
first_entries n r = record { table = r.table; entries = take n r.entries }

-- none of the first n events breaks a rule
abbrev pub NoneBreaks : Recorded → ℕ → Type 0
NoneBreaks r n =
    (p : ℕ) (e : Entry) →
    p < n → slice_get r.entries p ≡ Some e → BreaksNone (first_entries p r) e

-- event p breaks the rule and none before it, and no event before p breaks one
pub record IsBrokenAt (r : Recorded) (p : ℕ) (rule : LifecycleRule) : Type 0 where
  pub event : Entry
  pub stands : slice_get r.entries p ≡ Some event
  pub breaks : BreaksFirst (first_entries p r) event rule
  pub before : NoneBreaks r p

-- no event breaks a rule, and no key runs at the end
pub record IsInOrder (r : Recorded) : Type 0 where
  pub none : NoneBreaks r (length r.entries)
  pub at_rest : (key : ℕ) → runs key r.entries ≡ false

-- what is said of a record
abbrev pub IsLifecycle : Recorded → Lifecycle → Type 0
IsLifecycle r Kept = IsInOrder r × EachDueKeyRuns r
IsLifecycle r (Broken p rule) = IsBrokenAt r p rule
IsLifecycle r (Unfinished key) =
    NoneBreaks r (length r.entries) × (runs key r.entries ≡ true)
    × ((lower : ℕ) → lower < key → runs lower r.entries ≡ false)
IsLifecycle r (NeverRan key) = IsInOrder r × IsFirstNeverRun r key
