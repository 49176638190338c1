-- The keys of a unit that run, with their ids.
use Rattle.std.specs.Prelude.{ℕ, List, [], map, slice_get, unwrap_or}
use Rattle.tk_ids.specs.IdText.{SegmentView}
use Rattle.tk_ids.specs.Table.{ids_of}
use Rattle.tk_ids.specs.declared.descriptors.Descriptor.{Descriptor}
use Rattle.tk_engine_unit_events.specs.declared.running_keys.RunningKey.{RunningKey}

-- a key that runs, and the id of its descriptor
pub record RunningId : Type 0 where
  pub key : ℕ
  pub id : List SegmentView

-- the id of a static key
abbrev pub id_at : List Descriptor → ℕ → List SegmentView
id_at table key = unwrap_or (slice_get (ids_of table) key) []

-- a running key with its id, which the table has where the key has none beside it
abbrev pub with_id : List Descriptor → RunningKey → RunningId
with_id table k =
    record { key = k.key; id = unwrap_or k.dynamic_id (id_at table k.key) }

abbrev pub with_ids : List Descriptor → List RunningKey → List RunningId
with_ids table running = map (with_id table) running

abbrev pub keys_of : List RunningId → List ℕ
keys_of running = map (λ k. k.key) running
