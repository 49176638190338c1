-- Which records are runs of an engine.
use Rattle.std.specs.Prelude.{◌≡◌, ℕ, ◌+◌, List, [], ◌∷◌, ◌++◌, length, slice_get, Some}
use Rattle.tk_ids.specs.declared.descriptors.Descriptor.{Descriptor}
use Rattle.tk_events.specs.declared.events.Event.{Event}
use Rattle.tk_events.specs.declared.events.Entry.{Entry}
use Rattle.tk_record.specs.Recorded.{Recorded}
use Rattle.tk_record.specs.Mixing.{Mix}
use Rattle.tk_queue_session.specs.Emission.{registrations, entries_by}
use Rattle.tk_claims.specs.Claims.{Claims}

-- unit u may emit l for worker w that had registered k descriptors before: may u w k l
module _ (may : ℕ → ℕ → ℕ → List Event → Type 0) where
  -- l is what worker w may emit that had registered k descriptors and runs these units in this
  -- order
  abbrev pub Emits : ℕ → ℕ → List ℕ → List Event → Type 0
  Emits w k [] l = l ≡ []
  Emits w k (u ∷ us) l =
      (a : List Event) × (b : List Event) × (l ≡ a ++ b) × may u w k a
      × Emits w (k + registrations a) us b

  -- the list of worker i + 1 is what it may emit that runs list i of units
  abbrev pub EachEmits : List (List ℕ) → (ℕ → List Event) → Type 0
  EachEmits drawn lists =
      (i : ℕ) (us : List ℕ) → slice_get drawn i ≡ Some us → Emits (i + 1) 0 us (lists (i + 1))

  -- the entries interleave what the workers emitted that shared out the units
  pub record IsShared (units workers : ℕ) (mid : List Entry) : Type 0 where
    pub drawn : List (List ℕ)
    pub lists : ℕ → List Event
    pub seats : length drawn ≡ workers
    pub claims : Claims drawn units
    pub mix : Mix workers mid lists
    pub emits : EachEmits drawn lists

  -- the record, over the engine's table, is what came before, what the workers share, and what came
  -- after
  pub record IsRun (table : List Descriptor) (before after : List Event) (units workers : ℕ)
      (r : Recorded) : Type 0 where
    pub over : r.table ≡ table
    pub mid : List Entry
    pub whole : r.entries ≡ entries_by 0 before ++ mid ++ entries_by 0 after
    pub shared : IsShared units workers mid
