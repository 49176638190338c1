-- Which events stand between the start of a key and its finish.
use Rattle.std.specs.Prelude.{◌≡◌, ◌≢◌, ◌⊎◌, ℕ, List, ◌∷◌, ◌++◌, All}
use Rattle.tk_ids.specs.IdText.{SegmentView}
use Rattle.tk_events.specs.declared.events.Event.{Event}
use Rattle.tk_events.specs.declared.kinds.Kind.TheVariants.{Finished, Started}
use Rattle.tk_record.specs.Recorded.{Recorded}
use Rattle.tk_query_lifecycle.specs.Lifecycle.{HasId}
use Rattle.tk_ids.specs.IdText.{IsBelow}

-- none of the events finishes the key
abbrev pub LacksFinish : ℕ → List Event → Type 0
LacksFinish key events = All (λ e. e.kind ≡ Finished → e.key ≢ key) events

-- the event is of the key, or of one whose id stands below the key's
pub record BelongsTo (r : Recorded) (key : ℕ) (e : Event) : Type 0 where
  pub id : List SegmentView
  pub its : HasId r key id
  pub own : List SegmentView
  pub named : HasId r e.key own
  pub within : (own ≡ id) ⊎ IsBelow id own

-- after each start, and before its key finishes, each event belongs to the key
abbrev pub EventsNest : Recorded → List Event → Type 0
EventsNest r events =
    (before : List Event) (start : Event) (during after : List Event)
    → events ≡ before ++ start ∷ (during ++ after) → start.kind ≡ Started
    → LacksFinish start.key during → All (BelongsTo r start.key) during

-- after each start its key finishes
abbrev pub EachFinishes : List Event → Type 0
EachFinishes events =
    (before : List Event) (start : Event) (after : List Event)
    → events ≡ before ++ start ∷ after → start.kind ≡ Started → ¬ LacksFinish start.key after
