-- The first and the last event of a record that passes a test.
use Rattle.std.specs.Prelude.{ℕ, ◌+◌, Bool, false, not, ◌&&◌, ◌||◌, ◌==◌, if◌then◌else◌, List, []}
use Rattle.std.specs.Prelude.{◌∷◌, Option, Some, None, bytes_eq, take}
use Rattle.std.specs.Option.{option_or}
use Rattle.tk_ids.specs.IdText.{id_text, parent_of}
use Rattle.tk_ids.specs.declared.descriptors.Descriptor.{Descriptor}
use Rattle.tk_events.specs.declared.kinds.Kind.TheVariants.{Dynamic, Skipped, Started, Finished}
use Rattle.tk_events.specs.declared.statuses.Status.TheVariants.{Successful}
use Rattle.tk_events.specs.declared.events.Entry.{Entry}
use Rattle.tk_record.specs.Entries.{desc, described, of_kind, of_status}
use Rattle.tk_record.specs.Recorded.{Recorded}
use Rattle.tk_query_lifecycle.specs.Lifecycle.{has_event, is_event}
use Rattle.tk_explanations.specs.declared.sentences.EventAt.{EventAt}

-- the event at a position
abbrev pub event_at : ℕ → Entry → EventAt
event_at position e =
    record { position = position; key = e.event.key; kind = e.event.kind }

-- the first event that passes, where positions are counted from n on
unfoldable pub first_from : (Entry → Bool) → ℕ → List Entry → Option EventAt
first_from passes n [] = None
first_from passes n (e ∷ es) =
    if passes e then Some (event_at n e) else first_from passes (n + 1) es

-- the last event that passes, where positions are counted from n on
unfoldable pub last_from : (Entry → Bool) → ℕ → List Entry → Option EventAt
last_from passes n [] = None
last_from passes n (e ∷ es) =
    option_or (last_from passes (n + 1) es) (if passes e then Some (event_at n e) else None)

-- the first event before a position that passes
abbrev pub first_before : ℕ → (Entry → Bool) → Recorded → Option EventAt
first_before position passes r = first_from passes 0 (take position r.entries)

-- the last event before a position that passes
abbrev pub last_before : ℕ → (Entry → Bool) → Recorded → Option EventAt
last_before position passes r = last_from passes 0 (take position r.entries)

-- whether the event starts or skips the key
abbrev pub begins : ℕ → Entry → Bool
begins key e = is_event Started key e || is_event Skipped key e

-- whether the event starts, skips or finishes the key
abbrev pub steps : ℕ → Entry → Bool
steps key e = begins key e || is_event Finished key e

-- whether the event finishes the key successfully
abbrev pub succeeds : ℕ → Entry → Bool
succeeds key e = of_status Successful e && (e.event.key == key)

-- whether there is a descriptor, and its id has this text
abbrev pub has_id_text : List ℕ → Option Descriptor → Bool
has_id_text text None = false
has_id_text text (Some d) = bytes_eq (id_text d.id) text

-- Whether there is a descriptor, and its id without the last segment has this text. The text is
-- empty where the id has one segment, and no id has the empty text.
abbrev pub has_parent_text : List ℕ → Option Descriptor → Bool
has_parent_text text None = false
has_parent_text text (Some d) = bytes_eq (id_text (parent_of d.id)) text

-- whether the event registers an id with this text
abbrev pub registers_id : List ℕ → Entry → Bool
registers_id text e = of_kind Dynamic e && has_id_text text (described e.event.payload)

-- whether the event starts a key that doesn't finish before the position
abbrev pub starts_to_run : Recorded → ℕ → Entry → Bool
starts_to_run r position e =
    of_kind Started e && not (has_event Finished e.event.key (take position r.entries))

-- Whether the event starts a child of the descriptor whose id has this text, and the child doesn't
-- finish before the position.
abbrev pub starts_child : Recorded → ℕ → List ℕ → Entry → Bool
starts_child r position text e =
    starts_to_run r position e && has_parent_text text (desc r e.event.key)
