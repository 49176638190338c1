-- Which static descriptors never ran, though they are roots or their parents succeeded.
use Rattle.std.specs.Prelude.{◌≡◌, ◌⊎◌, ℕ, ◌<◌, true, List, length, Some, slice_get}
use Rattle.tk_ids.specs.IdText.{SegmentView, parent_of}
use Rattle.tk_ids.specs.declared.descriptors.Descriptor.{Descriptor}
use Rattle.tk_events.specs.declared.kinds.Kind.TheVariants.{Skipped, Started}
use Rattle.tk_events.specs.declared.statuses.Status.TheVariants.{Successful}
use Rattle.tk_events.specs.declared.events.Entry.{Entry}
use Rattle.tk_record.specs.Entries.{desc, of_kind, of_status}
use Rattle.tk_record.specs.Recorded.{Recorded}

-- an event of the record finishes the key successfully
pub record Succeeds (r : Recorded) (key : ℕ) : Type 0 where
  pub position : ℕ
  pub event : Entry
  pub stands : slice_get r.entries position ≡ Some event
  pub of_key : event.event.key ≡ key
  pub successful : of_status Successful event ≡ true

-- no event of the record starts or skips the key
pub record HasNoTurn (r : Recorded) (key : ℕ) : Type 0 where
  pub unstarted : (p : ℕ) (e : Entry) → slice_get r.entries p ≡ Some e → e.event.key ≡ key
      → ¬ (of_kind Started e ≡ true)
  pub unskipped : (p : ℕ) (e : Entry) → slice_get r.entries p ≡ Some e → e.event.key ≡ key
      → ¬ (of_kind Skipped e ≡ true)

-- a descriptor has the id without its last segment, and finishes successfully
pub record ParentSucceeds (r : Recorded) (id : List SegmentView) : Type 0 where
  pub below : 1 < length id
  pub parent : ℕ
  pub above : Descriptor
  pub described : desc r parent ≡ Some above
  pub is_parent : above.id ≡ parent_of id
  pub succeeds : Succeeds r parent

-- a descriptor with this id starts or is skipped: it is a root, or its parent succeeds
abbrev pub IsDue : Recorded → List SegmentView → Type 0
IsDue r id = (length id ≡ 1) ⊎ ParentSucceeds r id

-- the key is static and due, and neither starts nor is skipped
pub record NeverRuns (r : Recorded) (key : ℕ) : Type 0 where
  pub descriptor : Descriptor
  pub static : slice_get r.table key ≡ Some descriptor
  pub due : IsDue r descriptor.id
  pub no_turn : HasNoTurn r key

-- each static key that is due starts or is skipped
abbrev pub EachDueKeyRuns : Recorded → Type 0
EachDueKeyRuns r = (key : ℕ) → ¬ NeverRuns r key

-- the least key that never runs
pub record IsFirstNeverRun (r : Recorded) (key : ℕ) : Type 0 where
  pub never : NeverRuns r key
  pub first : (lower : ℕ) → lower < key → ¬ NeverRuns r lower
