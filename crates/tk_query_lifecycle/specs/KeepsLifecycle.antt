-- A record that keeps the lifecycle, by its events alone.
use Rattle.std.specs.Prelude.{◌≡◌, ℕ, ◌<◌, Bool, ◌&&◌, ◌||◌, ◌==◌, true, if◌then◌else◌, List, []}
use Rattle.std.specs.Prelude.{◌∷◌, length, Some, slice_get}
use Rattle.tk_ids.specs.IdText.{SegmentView, parent_of}
use Rattle.tk_events.specs.declared.kinds.Kind.{Kind}
use Rattle.tk_events.specs.declared.kinds.Kind.TheVariants.{Skipped, Started, Finished}
use Rattle.tk_events.specs.declared.events.Entry.{Entry}
use Rattle.tk_events.specs.Event.{kind_code}
use Rattle.tk_record.specs.Entries.{with_entry}
use Rattle.tk_record.specs.Recorded.{Recorded}
use Rattle.tk_query_lifecycle.specs.Lifecycle.{HasId, KnowsId, first_entries, runs}

-- whether it is the kind of a start, a skip or a finish
abbrev pub is_step : Kind → Bool
is_step kind =
    (kind_code kind == kind_code Started)
    || ((kind_code kind == kind_code Skipped) || (kind_code kind == kind_code Finished))

-- the kinds of the key's starts, skips and finishes, in their order
abbrev pub steps_of : ℕ → List Entry → List Kind
steps_of key [] = []
steps_of key (e ∷ es) =
    if is_step e.event.kind && (e.event.key == key)
    then e.event.kind ∷ steps_of key es
    else steps_of key es

-- none, one skip, or one start and one finish after it
abbrev pub IsWhole : List Kind → Type 0
IsWhole [] = Unit {0}
IsWhole (Skipped ∷ []) = Unit {0}
IsWhole (Started ∷ Finished ∷ []) = Unit {0}
IsWhole _ = ⊥

-- Event p of the record, if the id of its key has a parent's id: a key has the parent's id, and
-- runs before the event.
abbrev pub IsBelowRunning : Recorded → ℕ → Entry → Type 0
IsBelowRunning r p e =
    (id : List SegmentView) →
    HasId (with_entry (first_entries p r) e) e.event.key id → 1 < length id →
    (parent : ℕ) × HasId (first_entries p r) parent (parent_of id)
    × (runs parent (first_entries p r).entries ≡ true)

-- Each registered id is a new one; each event of a child stands after a start of its parent, and
-- not after a finish of it; each key is left alone, skipped once, or started once and then finished
-- once.
pub record KeepsLifecycle (r : Recorded) : Type 0 where
  pub ids : (p : ℕ) (e : Entry) → slice_get r.entries p ≡ Some e → ¬ KnowsId (first_entries p r) e
  pub below : (p : ℕ) (e : Entry) → slice_get r.entries p ≡ Some e → IsBelowRunning r p e
  pub whole : (key : ℕ) → IsWhole (steps_of key r.entries)
