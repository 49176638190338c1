-- What a record says of ids, whoever emitted it, under whatever key and when.
use Rattle.std.specs.Prelude.{ℕ, Bool, ◌==◌, List, [], map, Option, Some, None, bytes_eq}
use Rattle.tk_ids.specs.IdText.{SegmentView, id_text}
use Rattle.tk_ids.specs.declared.descriptors.Descriptor.{Descriptor}
use Rattle.tk_events.specs.declared.kinds.Kind.{Kind}
use Rattle.tk_events.specs.declared.payloads.Payload.{Payload}
use Rattle.tk_events.specs.declared.events.Event.{Event}
use Rattle.tk_events.specs.declared.events.Entry.{Entry}
use Rattle.tk_events.specs.Event.{kind_code}
use Rattle.tk_record.specs.Recorded.{Recorded}
use Rattle.tk_record.specs.Entries.{desc}

-- an event without its worker, its key and its stamp, with the id of its descriptor
pub record Label : Type 0 where
  pub id : List SegmentView
  pub kind : Kind
  pub payload : Payload

-- the id of a descriptor, none without one
abbrev pub id_in : Option Descriptor → List SegmentView
id_in None = []
id_in (Some d) = d.id

-- the id of the descriptor of a key
abbrev pub name : Recorded → ℕ → List SegmentView
name r key = id_in (desc r key)

-- the label of an event, where `names` has the id of each key
abbrev pub label : (ℕ → List SegmentView) → Event → Label
label names e = record { id = names e.key; kind = e.kind; payload = e.payload }

-- the events of entries
abbrev pub events : List Entry → List Event
events entries = map (λ (e : Entry). e.event) entries

-- the labels of a record's events, in its order
abbrev pub labels : Recorded → List Label
labels r = map (label (name r)) (events r.entries)

-- whether two ids are one, which their texts say
unfoldable pub same_id : List SegmentView → List SegmentView → Bool
same_id a b = bytes_eq (id_text a) (id_text b)

-- whether two kinds are one
abbrev pub same_kind : Kind → Kind → Bool
same_kind a b = kind_code a == kind_code b
