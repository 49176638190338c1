-- Where a unit of a hierarchical engine stands.
use Rattle.std.specs.Prelude.{◌≡◌, ℕ, true, List, [], ◌++◌}
use Rattle.tk_ids.specs.IdText.{IsId, SegmentView, id_text}
use Rattle.tk_events.specs.declared.events.Event.{Event}
use Rattle.tk_queue_session.specs.Senders.{SenderView}
use Rattle.tk_query_lifecycle.specs.Lifecycle.{HasId}
use Rattle.tk_engine_lifecycle.specs.Units.{Frame}
use Rattle.tk_engine_lifecycle.specs.UnderWay.{so_far}
use Rattle.tk_engine_unit_events.specs.Events.{HasRun, IsRunning}
use Rattle.tk_engine_unit_events.specs.RegisteredIds.{is_registered}
use Rattle.tk_engine_unit_events.specs.Running.{with_ids}
use Rattle.tk_engine_unit_events.specs.Units.{HasPlayed, UnitKeys}
use Rattle.tk_engine_unit_events.specs.declared.unit_events.UnitProgress.{UnitProgress}

-- a unit that began: its engine's frame, its static keys, which steps these may have, and the sink
-- as it was then
pub record BegunUnit : Type 1 where
  pub frame : Frame
  pub keys : UnitKeys
  pub may_step : Event → Type 0
  pub start : SenderView

-- the sink took a list of events since the unit began, which is all that the unit emits
abbrev pub IsComplete : BegunUnit → SenderView → Type 0
IsComplete unit now = HasRun unit.frame unit.may_step unit.keys unit.start now

-- the id is that of a static descriptor, or of one that the unit has registered
abbrev pub IsKnown : BegunUnit → SenderView → List SegmentView → Type 0
IsKnown unit now id =
    (events : List Event) × (now.sent ≡ unit.start.sent ++ events)
    × (key : ℕ) × HasId (so_far unit.frame unit.start.worker events) key id

-- the text is that of an id that is known
pub record IsNotedText (unit : BegunUnit) (now : SenderView) (text : List ℕ) : Type 0 where
  pub id : List SegmentView
  pub is_id : IsId id
  pub its : id_text id ≡ text
  pub known : IsKnown unit now id

-- each text that is noted is that of an id that is known
abbrev pub AreNoted : BegunUnit → SenderView → List (List ℕ) → Type 0
AreNoted unit now registered =
    (text : List ℕ) → is_registered registered text ≡ true → IsNotedText unit now text

-- A unit stands at this progress: what the sink took since the unit began is that of a unit under
-- way, whose running keys, registered ids and next static key are those of the progress. It has
-- registered what is noted, or a static descriptor has the id.
pub record StandsAt (unit : BegunUnit) (now : SenderView) (progress : UnitProgress) : Type 0 where
  pub number : progress.unit ≡ unit.keys.unit
  pub end : progress.end ≡ unit.keys.end
  pub running : IsRunning unit.frame unit.keys.unit unit.start now
      (with_ids unit.frame.table progress.running.elements) progress.registered.keys progress.next
  pub played : HasPlayed unit.frame.table unit.may_step unit.keys.first progress.next unit.start now
  pub noted : AreNoted unit now progress.registered.keys

-- a sink without a session, for the default of a ghost member
abbrev pub no_sink : SenderView
no_sink = record {
  session = record {
    words = 0;
    slots = 0;
    views_name = 0;
    atom = 0;
    block = 0;
    offset = 0;
    slot_names = [];
  };
  table = [];
  worker = 0;
  sent = [];
}

-- a unit of an engine without descriptors, for the default of a ghost member
abbrev pub no_unit : BegunUnit
no_unit = record {
  frame = record { table = []; before = []; after = []; units = 0; owner = λ _. 0 };
  keys = record { unit = 0; first = 0; end = 0 };
  may_step = λ _. Unit {0};
  start = no_sink;
}
