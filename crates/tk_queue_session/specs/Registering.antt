-- What registering a dynamic descriptor answers.
use Rattle.std.specs.Prelude.{◌≡◌, ℕ, ◌<◌, true, List, [], ◌∷◌, ◌++◌, length}
use Rattle.std.specs.Prelude.{Option, Some, None, is_some, Result, Ok, Err}
use Rattle.tk_ids.specs.declared.id_faults.IdFault.TheVariants as id_faults
use Rattle.tk_ids.specs.declared.descriptors.DType.{DType}
use Rattle.tk_ids.specs.declared.descriptors.Descriptor.{Descriptor}
use Rattle.tk_ids.specs.declared.tables.TheConstants.{MAX_DESCRIPTORS}
use Rattle.tk_ids.specs.IdText.{SegmentView, FitsLimits}
use Rattle.tk_ids.specs.Table.{unlocked}
use Rattle.tk_events.specs.declared.kinds.Kind.TheVariants.{Dynamic}
use Rattle.tk_events.specs.declared.payloads.Payload.TheVariants.{Described}
use Rattle.tk_events.specs.declared.events.Event.{Event}
use Rattle.tk_events.specs.Registration.{registered_key}
use Rattle.tk_record.specs.Entries.{desc}
use Rattle.tk_queue_session.specs.declared.sender_faults.RegisterFault.{RegisterFault}
use Rattle.tk_queue_session.specs.declared.sender_faults.RegisterFault.TheVariants as unregistered
use Rattle.tk_queue_session.specs.Limits.{most_events}
use Rattle.tk_queue_session.specs.Emission.{registrations}
use Rattle.tk_queue_session.specs.Senders.{SenderView, sends, record_of_sender}

-- there is room for one registration more
abbrev pub HasRoom : SenderView → Type 0
HasRoom s = (length s.sent < most_events) × (registrations s.sent < MAX_DESCRIPTORS)

-- the descriptor below a parent, which declares no lock
abbrev pub child : Descriptor → SegmentView → List ℕ → DType → Descriptor
child above segment name dtype =
    unlocked (above.id ++ segment ∷ []) name dtype

-- the sender's next registration
abbrev pub registration : SenderView → ℕ → Descriptor → Event
registration s stamp d = record {
  kind = Dynamic;
  key = registered_key s.worker (registrations s.sent);
  stamp = stamp;
  payload = Described d;
}

-- no descriptor has the key, static or registered by the sender
abbrev pub IsNew : SenderView → ℕ → Type 0
IsNew s key = desc (record_of_sender s) key ≡ None

-- what `register` is asked: the parent's key, and what the descriptor below it has
pub record RegisterRequest : Type 0 where
  pub parent : ℕ
  pub segment : SegmentView
  pub name : List ℕ
  pub dtype : DType
  pub stamp : ℕ

-- the parent, where the sender knows its key
abbrev pub parent_of : SenderView → ℕ → Option Descriptor
parent_of s key = desc (record_of_sender s) key

-- the descriptor that is asked for, below this parent
abbrev pub child_of : RegisterRequest → Descriptor → Descriptor
child_of ask above = child above ask.segment ask.name ask.dtype

-- What registering a descriptor answers, and the sender after it. `Memory` may come where the
-- parent is known and there is room.
abbrev pub IsRegisteredAs :
    SenderView → SenderView → RegisterRequest → Result ℕ RegisterFault → Type 0
IsRegisteredAs old new ask (Ok key) =
    (above : Descriptor) × (parent_of old ask.parent ≡ Some above)
    × HasRoom old × FitsLimits (child_of ask above).id
    × (key ≡ registered_key old.worker (registrations old.sent))
    × (new ≡ sends old (registration old ask.stamp (child_of ask above)))
    × IsNew old key
IsRegisteredAs old new ask (Err unregistered.UnknownNode) =
    (parent_of old ask.parent ≡ None) × (new ≡ old)
IsRegisteredAs old new ask (Err unregistered.Limit) =
    (is_some (parent_of old ask.parent) ≡ true) × ¬ HasRoom old × (new ≡ old)
IsRegisteredAs old new ask (Err (unregistered.Id id_faults.TooLong)) =
    (above : Descriptor) × (parent_of old ask.parent ≡ Some above) × HasRoom old
    × ¬ FitsLimits (child_of ask above).id × (new ≡ old)
IsRegisteredAs old new ask (Err (unregistered.Id _)) = ⊥
IsRegisteredAs old new ask (Err unregistered.Memory) =
    (is_some (parent_of old ask.parent) ≡ true) × HasRoom old × (new ≡ old)
