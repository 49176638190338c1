-- What contracts see of a sender: the session, its worker, and what it emitted.
use Rattle.std.specs.Prelude.{◌≡◌, ℕ, zero, suc, ◌<◌, ◌≤◌, ◌-◌, not, nat_lt, Bool, true, false}
use Rattle.std.specs.Prelude.{if◌then◌else◌, List, [], ◌∷◌, ◌++◌, length, slice_get}
use Rattle.std.specs.Prelude.{Option, Some, None, is_some, option_map}
use Rattle.atomic_table.specs.Seated.{TableId}
use Rattle.tk_ids.specs.declared.descriptors.Descriptor.{Descriptor}
use Rattle.tk_ids.specs.declared.tables.TheConstants.{MAX_DESCRIPTORS}
use Rattle.tk_ids.specs.IdText.{SegmentView}
use Rattle.tk_events.specs.declared.events.Event.{Event}
use Rattle.tk_events.specs.Event.{is_lawful}
use Rattle.tk_events.specs.Registration.{registered_key}
use Rattle.tk_record.specs.Record.{is_known}
use Rattle.tk_record.specs.Recorded.{Recorded}
use Rattle.tk_record.specs.Entries.{desc, desc_in}
use Rattle.tk_queue_session.specs.Limits.{most_workers, most_events}
use Rattle.tk_queue_session.specs.declared.sender_faults.SendFault.{SendFault}
use Rattle.tk_queue_session.specs.declared.sender_faults.SendFault.TheVariants.{UnknownNode}
use Rattle.tk_queue_session.specs.declared.sender_faults.SendFault.TheVariants.{Unlawful, Limit}
use Rattle.tk_queue_session.specs.declared.session_rules.PassView.{PassView}
use Rattle.tk_queue_session.specs.declared.session_rules.PassView.TheVariants.{Sends}
use Rattle.tk_queue_session.specs.Emission.{Emission, is_plain, registrations, entry_by, entries_by}
use Rattle.tk_queue_session.specs.PassViews.{pass_of_sender}

-- the session, its table of static descriptors, the worker, and the events that it emitted there,
-- in order
pub record SenderView : Type 0 where
  pub session : TableId
  pub table : List Descriptor
  pub worker : ℕ
  pub sent : List Event

-- the sender after it emitted one event more
abbrev pub sends : SenderView → Event → SenderView
sends s e =
    record { session = s.session; table = s.table; worker = s.worker; sent = s.sent ++ e ∷ [] }

-- the senders of the workers 1 to n, who have emitted nothing
abbrev pub fresh_senders : TableId → List Descriptor → ℕ → List SenderView
fresh_senders session table zero = []
fresh_senders session table (suc n) =
    fresh_senders session table n
    ++ record { session = session; table = table; worker = suc n; sent = [] } ∷ []

-- the record of what the sender alone emitted
abbrev pub record_of_sender : SenderView → Recorded
record_of_sender s = record { table = s.table; entries = entries_by s.worker s.sent }

-- whether the descriptor is static, or the sender registered it
abbrev pub knows : SenderView → ℕ → Bool
knows s key = is_some (desc (record_of_sender s) key)

-- The sender's first reason not to send the event, if it has one. That the queue is full is none.
abbrev pub refusal_of : SenderView → Event → Option SendFault
refusal_of s e =
    if not (knows s e.key) then Some (UnknownNode e)
    else if not (is_plain e) then Some (Unlawful e)
    else if not (nat_lt (length s.sent) most_events) then Some (Limit e)
    else None

-- the event may be recorded after these of its worker: it is lawful, and its key is known
pub record IsLawfulAfter (s : SenderView) (before : List Event) (e : Event) : Type 0 where
  pub lawful : is_lawful e.kind e.payload ≡ true
  pub known :
      is_known (record { table = s.table; entries = entries_by s.worker before })
      (entry_by s.worker e) ≡ true

-- each event of the sender may be recorded after its earlier ones, and they are within the limit
pub record EmitsLawfully (s : SenderView) : Type 0 where
  pub each :
      (before : List Event) (e : Event) (after : List Event) → s.sent ≡ before ++ e ∷ after
      → IsLawfulAfter s before e
  pub few : length s.sent ≤ most_events

-- what the pass of a sender knows of the events that it sent
abbrev pub sent_of : PassView → List Event
sent_of (Sends s) = s.sent
sent_of v = []

-- the id that a worker registered under the key, of those that it registered, in order
abbrev pub id_registered : ℕ → List (List SegmentView) → ℕ → Option (List SegmentView)
id_registered worker ids key =
    if nat_lt key (registered_key worker 0) then None
    else slice_get ids (key - registered_key worker 0)

-- what a sender keeps beside its pass: its table and its worker, the ids of the descriptors that it
-- registered, in order, and how many events it emitted
pub record SenderFields : Type 0 where
  pub table : List Descriptor
  pub worker : ℕ
  pub ids : List (List SegmentView)
  pub emitted : ℕ

-- the fields of a sender stand for what its pass knows
pub record IsSender (v : PassView) (f : SenderFields) : Type 0 where
  pub is : v ≡ pass_of_sender (length f.table) f.worker (sent_of v) false
  pub counted : f.emitted ≡ length (sent_of v)
  pub leads :
      (key : ℕ) →
      option_map (λ (d : Descriptor). d.id) (desc_in (entries_by f.worker (sent_of v)) key)
      ≡ id_registered f.worker f.ids key
  pub number : length f.ids ≡ registrations (sent_of v)
  pub few_ids : length f.ids ≤ MAX_DESCRIPTORS
  pub may : Emission (length f.table) f.worker (sent_of v)
  pub low : 0 < f.worker
  pub high : f.worker ≤ most_workers
