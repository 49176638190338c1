-- Which events a worker may emit after those that it emitted.
use Rattle.std.specs.Prelude.{◌≡◌, ℕ, ◌≤◌, ◌==◌, ◌&&◌, ◌||◌, not, nat_lt, if◌then◌else◌, Bool, true}
use Rattle.std.specs.Prelude.{List, [], ◌∷◌, ◌++◌, length, map, count_by, is_some}
use Rattle.tk_events.specs.declared.kinds.Kind.TheVariants.{Dynamic}
use Rattle.tk_events.specs.declared.events.Event.{Event}
use Rattle.tk_events.specs.declared.events.Entry.{Entry}
use Rattle.tk_events.specs.Event.{kind_code, is_lawful}
use Rattle.tk_record.specs.Entries.{of_kind, desc_in}
use Rattle.tk_record.specs.Record.{is_next}
use Rattle.tk_queue_session.specs.Limits.{most_events}

abbrev pub entry_by : ℕ → Event → Entry
entry_by w e = record { worker = w; event = e }

-- the entries of worker w with these events
abbrev pub entries_by : ℕ → List Event → List Entry
entries_by w es = map (entry_by w) es

-- whether the event registers a descriptor
abbrev pub is_dynamic : Event → Bool
is_dynamic e = kind_code e.kind == kind_code Dynamic

-- how many descriptors the events register
abbrev pub registrations : List Event → ℕ
registrations es = count_by is_dynamic es

-- whether a worker may emit the event by `send`: it is lawful and registers no descriptor
abbrev pub is_plain : Event → Bool
is_plain e = is_lawful e.kind e.payload && not (is_dynamic e)

-- whether the entry has a known key after these entries, where n descriptors are static
abbrev pub is_known_after : ℕ → List Entry → Entry → Bool
is_known_after n es e =
    if of_kind Dynamic e then is_next (record { table = []; entries = es }) e
    else (nat_lt e.event.key n || is_some (desc_in es e.event.key))

-- worker w may emit e after the events of before, where n descriptors are static
pub record MayEmit (n w : ℕ) (before : List Event) (e : Event) : Type 0 where
  pub lawful : is_lawful e.kind e.payload ≡ true
  pub known : is_known_after n (entries_by w before) (entry_by w e) ≡ true

-- each event might be emitted after those before it, and they are no more than the limit
pub record Emission (n w : ℕ) (es : List Event) : Type 0 where
  pub each :
      (before : List Event) (e : Event) (after : List Event) → es ≡ before ++ e ∷ after
      → MayEmit n w before e
  pub few : length es ≤ most_events
