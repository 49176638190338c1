-- The events of each kind, and what was emitted into a sink, in order.
use Rattle.std.specs.Prelude.{◌≡◌, ℕ, List, [], ◌∷◌, ◌++◌, Some}
use Rattle.tk_ids.specs.declared.descriptors.Descriptor.{Descriptor}
use Rattle.tk_events.specs.declared.events.Event.{Event}
use Rattle.tk_events.specs.declared.kinds.Kind.TheVariants as kinds
use Rattle.tk_events.specs.declared.outcomes.Outcome.{Outcome}
use Rattle.tk_events.specs.declared.payloads.Payload.TheVariants as payloads
use Rattle.tk_events.specs.Registration.{registered_key}
use Rattle.tk_queue_session.specs.Emission.{registrations}
use Rattle.tk_queue_session.specs.Registering.{RegisterRequest, child_of, parent_of}
use Rattle.tk_queue_session.specs.Senders.{SenderView}
use Rattle.tk_engine_execute.specs.Engines.{IsSameSender}
use Rattle.tk_engine_execute.specs.declared.engines.UnitFault.{UnitFault}
use Rattle.tk_engine_execute.specs.declared.engines.UnitFault.TheVariants.{Sink, Memory, Own, Text}
use Rattle.tk_engine_unit_events.specs.UnitSteps.{event}

-- the descriptor with the key started
abbrev pub started : ℕ → ℕ → Event
started key stamp = event kinds.Started key stamp payloads.Nothing

-- the descriptor with the key finished with this outcome
abbrev pub finished : ℕ → ℕ → Outcome → Event
finished key stamp outcome = event kinds.Finished key stamp (payloads.Outcome outcome)

-- the descriptor with the key is skipped for this reason
abbrev pub skipped : ℕ → ℕ → List ℕ → Event
skipped key stamp reason = event kinds.Skipped key stamp (payloads.Reason reason)

-- an entry of these pairs was published for the descriptor with the key
abbrev pub reported : ℕ → ℕ → List (List ℕ × List ℕ) → Event
reported key stamp pairs = event kinds.Reporting key stamp (payloads.Report pairs)

-- the file at this path was published for the descriptor with the key
abbrev pub file_published : ℕ → ℕ → List ℕ → Event
file_published key stamp path = event kinds.File key stamp (payloads.Path path)

-- this descriptor was registered under the key
abbrev pub registered : ℕ → ℕ → Descriptor → Event
registered key stamp d = event kinds.Dynamic key stamp (payloads.Described d)

-- b is a after it emitted these events, in this order, and no others
pub record Emitted (a b : SenderView) (es : List Event) : Type 0 where
  pub same : IsSameSender a b
  pub sent : b.sent ≡ a.sent ++ es

-- b is a after it emitted a list of which P holds
pub record EmittedAs (P : List Event → Type 0) (a b : SenderView) : Type 0 where
  pub events : List Event
  pub emitted : Emitted a b events
  pub holds : P events

-- The descriptor that was asked for was registered below its parent, under the next key of the
-- worker. Its registration is all that was emitted.
pub record Registered (a b : SenderView) (ask : RegisterRequest) (key : ℕ) : Type 0 where
  pub above : Descriptor
  pub parent : parent_of a ask.parent ≡ Some above
  pub next : key ≡ registered_key a.worker (registrations a.sent)
  pub emitted : Emitted a b (registered key ask.stamp (child_of ask above) ∷ [])

-- a unit's fault that is a refusal of its sink
abbrev pub IsOfSink : UnitFault → Type 0
IsOfSink (Sink why) = Unit {0}
IsOfSink Memory = ⊥
IsOfSink (Own number) = ⊥
IsOfSink (Text text) = ⊥
