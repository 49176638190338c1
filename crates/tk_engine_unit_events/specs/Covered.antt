-- Which static keys had their turn.
use Rattle.std.specs.Prelude.{◌≡◌, ◌⊎◌, ℕ, ◌<◌, ◌≤◌, true, List, Some, slice_get}
use Rattle.tk_ids.specs.IdText.{SegmentView, IsBelow}
use Rattle.tk_ids.specs.Table.{ids_of}
use Rattle.tk_ids.specs.declared.descriptors.Descriptor.{Descriptor}
use Rattle.tk_events.specs.declared.events.Entry.{Entry}
use Rattle.tk_events.specs.declared.kinds.Kind.TheVariants.{Skipped}
use Rattle.tk_query_lifecycle.specs.Lifecycle.{has_event, has_run}

-- the key has an id that stands below this one
abbrev pub IsKeyBelow : List Descriptor → List SegmentView → ℕ → Type 0
IsKeyBelow table above key =
    (id : List SegmentView) × (slice_get (ids_of table) key ≡ Some id) × IsBelow above id

-- the key stands below a key of these that was skipped
pub record IsBelowSkipped (table : List Descriptor) (entries : List Entry) (key : ℕ) :
    Type 0 where
  pub above : ℕ
  pub skipped : has_event Skipped above entries ≡ true
  pub id : List SegmentView
  pub its : slice_get (ids_of table) above ≡ Some id
  pub below : IsKeyBelow table id key

-- the key started or was skipped, or stands below one that was skipped
abbrev pub IsCovered : List Descriptor → List Entry → ℕ → Type 0
IsCovered table entries key = (has_run key entries ≡ true) ⊎ IsBelowSkipped table entries key

-- each key from `first` on and below `end` started or was skipped, or stands below a skipped one
abbrev pub AreCovered : List Descriptor → List Entry → ℕ → ℕ → Type 0
AreCovered table entries first end =
    (key : ℕ) → first ≤ key → key < end → IsCovered table entries key
