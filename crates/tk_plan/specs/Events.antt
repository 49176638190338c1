-- The events of a node that stands in the table under its number.
use Rattle.std.specs.Prelude.{◌≡◌, ◌≢◌, ℕ, ◌+◌, ◌<◌, ◌≤◌, List, [], ◌∷◌, ◌++◌, true, length, All}
use Rattle.tk_base.specs.declared.limits.TheConstants.{MAX_EVENTS}
use Rattle.tk_ids.specs.declared.descriptors.Descriptor.{Descriptor}
use Rattle.tk_events.specs.declared.kinds.Kind.{Kind}
use Rattle.tk_events.specs.declared.kinds.Kind.TheVariants.{Dynamic, Started, Finished, Reporting}
use Rattle.tk_events.specs.declared.kinds.Kind.TheVariants.{File}
use Rattle.tk_events.specs.declared.payloads.Payload.{Payload}
use Rattle.tk_events.specs.declared.payloads.Payload.TheVariants.{Nothing, Outcome, Report, Path}
use Rattle.tk_events.specs.declared.events.Event.{Event}
use Rattle.tk_events.specs.Event.{is_lawful}
use Rattle.tk_plan.specs.declared.trees.nodes.Node.{Node}

abbrev pub event : Kind → ℕ → ℕ → Payload → Event
event kind key stamp payload = record { kind = kind; key = key; stamp = stamp; payload = payload }

-- the event that publishes an entry of the node of that key, with that stamp
abbrev pub entry_event : ℕ → ℕ → List (List ℕ × List ℕ) → Event
entry_event key stamp pairs = event Reporting key stamp (Report pairs)

-- the event that publishes a file of the node of that key, with that stamp
abbrev pub file_event : ℕ → ℕ → List ℕ → Event
file_event key stamp path = event File key stamp (Path path)

-- an event for each of some contents, with the stamps from a first one on
abbrev pub published : {A : Type 0} → (ℕ → A → Event) → ℕ → List A → List Event
published event_with stamp [] = []
published event_with stamp (x ∷ xs) =
    event_with stamp x ∷ published event_with (stamp + 1) xs

-- a node's start, then its entries in order, then its files in order
abbrev pub opening_events : ℕ → ℕ → Node → List Event
opening_events k i n =
    event Started k i Nothing
    ∷ (published (entry_event k) (i + 1) n.entries
    ++ published (file_event k) (i + 1 + length n.entries) n.files)

-- a node's finish
abbrev pub finish_event : ℕ → ℕ → Node → Event
finish_event k i n = event Finished k i (Outcome n.outcome)

-- a lawful event of a descriptor of the table, which registers nothing
pub record IsStatic (table : List Descriptor) (e : Event) : Type 0 where
  pub known : e.key < length table
  pub lawful : is_lawful e.kind e.payload ≡ true
  pub registers_none : e.kind ≢ Dynamic

-- at most `MAX_EVENTS` events of the table, each lawful, none a registration
pub record AreStatic (table : List Descriptor) (es : List Event) : Type 0 where
  pub each : All (IsStatic table) es
  pub few : length es ≤ MAX_EVENTS
