-- What the workers of a run did.
use Rattle.std.specs.Prelude.{◌≡◌, ℕ, ◌+◌, List, [], ◌∷◌, ◌++◌, length, slice_get}
use Rattle.std.specs.Prelude.{Option, None, Some}
use Rattle.tk_ids.specs.declared.descriptors.Descriptor.{Descriptor}
use Rattle.tk_events.specs.declared.events.Event.{Event}
use Rattle.tk_events.specs.declared.events.Entry.{Entry}
use Rattle.tk_record.specs.Mixing.{IsWorkerOf, Mix}
use Rattle.tk_claims.specs.Claims.{Claims}
use Rattle.tk_claims.specs.Run.{Emits}
use Rattle.tk_engine_execute.specs.declared.engines.UnitFault.{UnitFault}
use Rattle.tk_engine_execute.specs.Faults.{Failures}

-- what contracts see of an engine: its table, how many units it has, the events before and after
-- them, which events each may emit, and with what each may fail
pub record EngineView : Type 1 where
  pub table : List Descriptor
  pub units : ℕ
  pub before : List Event
  pub after : List Event
  pub may : ℕ → ℕ → ℕ → List Event → Type 0
  pub fails : ℕ → UnitFault → Type 0

abbrev pub engine_view :
    List Descriptor → ℕ → List Event → List Event → (ℕ → ℕ → ℕ → List Event → Type 0)
    → (ℕ → UnitFault → Type 0) → EngineView
engine_view table units before after may fails =
    record {
      table = table;
      units = units;
      before = before;
      after = after;
      may = may;
      fails = fails;
    }

-- A unit failed at worker w: it is the last that the worker drew. The units before it emitted a
-- prefix of what the worker emitted; the rest is what the unit emitted until it failed.
pub record StoppedAt (may : ℕ → ℕ → ℕ → List Event → Type 0) (w : ℕ) (drawn : List ℕ)
    (emitted : List Event) (unit : ℕ) : Type 0 where
  pub earlier : List ℕ
  pub prefix : List Event
  pub rest : List Event
  pub last : drawn ≡ earlier ++ unit ∷ []
  pub cut : emitted ≡ prefix ++ rest
  pub emits : Emits may w 0 earlier prefix

-- what worker w emitted that drew these units: what they may emit, or what they may until one of
-- them failed
abbrev pub EmittedUntil :
    (ℕ → ℕ → ℕ → List Event → Type 0) → ℕ → List ℕ → List Event → Option (ℕ × UnitFault)
    → Type 0
EmittedUntil may w drawn emitted None = Emits may w 0 drawn emitted
EmittedUntil may w drawn emitted (Some failed) = StoppedAt may w drawn emitted failed.0

-- what the workers of a run left, by their numbers: the events that each sent, and its failure
pub record Ends : Type 0 where
  pub sent : ℕ → List Event
  pub failures : Failures

-- The entries interleave what the workers 1 to n sent. They drew units, each once, and all of them
-- unless each worker has a failure.
pub record IsWork (e : EngineView) (n : ℕ) (ends : Ends) (mid : List Entry) : Type 0 where
  pub drawn : List (List ℕ)
  pub many : ℕ
  pub seats : length drawn ≡ n
  pub claims : Claims drawn many
  pub all : (w : ℕ) → IsWorkerOf n w → ends.failures w ≡ None → many ≡ e.units
  pub mix : Mix n mid ends.sent
  pub emitted :
      (i : ℕ) (us : List ℕ) → slice_get drawn i ≡ Some us
      → EmittedUntil e.may (i + 1) us (ends.sent (i + 1)) (ends.failures (i + 1))
