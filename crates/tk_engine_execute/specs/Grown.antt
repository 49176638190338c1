-- What a unit has done to its sink so far, for engines whose units emit one event after another.
use Rattle.std.specs.Prelude.{◌≡◌, List, ◌++◌, All}
use Rattle.tk_events.specs.declared.events.Event.{Event}
use Rattle.tk_queue_session.specs.Senders.{SenderView}
use Rattle.tk_engine_execute.specs.Engines.{IsSameSender}

-- some events were emitted, and P holds of each
pub record GrewBy (P : Event → Type 0) (a b : SenderView) : Type 0 where
  pub same : IsSameSender a b
  pub events : List Event
  pub sent : b.sent ≡ a.sent ++ events
  pub each : All P events

-- the property that every event has
abbrev pub AnyEvent : Event → Type 0
AnyEvent e = Unit {0}

-- some events were emitted
abbrev pub Grew : SenderView → SenderView → Type 0
Grew a b = GrewBy AnyEvent a b
