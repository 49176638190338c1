-- What private clauses and proofs alone name.
use Rattle.std.specs.Prelude.{◌≡◌, ℕ, true, List, length, Some, None, is_some, Result, Ok, Err}
use Rattle.tk_ids.specs.IdText.{FitsLimits, SegmentView}
use Rattle.tk_ids.specs.declared.descriptors.Descriptor.{Descriptor}
use Rattle.tk_ids.specs.declared.id_faults.IdFault.TheVariants as id_faults
use Rattle.tk_queue_session.specs.Registering.{HasRoom, parent_of}
use Rattle.tk_queue_session.specs.Senders.{SenderView}
use Rattle.tk_queue_session.specs.declared.sender_faults.RegisterFault.{RegisterFault}
use Rattle.tk_queue_session.specs.declared.sender_faults.RegisterFault.TheVariants as unregistered
use Rattle.tk_queue_session.specs.declared.session_rules.SenderPass.{SenderPass}

-- What making the descriptor below a parent answers, with its id once more. `below` is the
-- descriptor that is asked for, below each parent.
abbrev pub IsChildMade :
    SenderView → ℕ → (Descriptor → Descriptor)
    → Result (List SegmentView × Descriptor) RegisterFault → Type 0
IsChildMade s parent below (Ok made) =
    (above : Descriptor) × (parent_of s parent ≡ Some above) × HasRoom s
    × FitsLimits (below above).id × (made.0 ≡ (below above).id) × (made.1 ≡ below above)
IsChildMade s parent below (Err unregistered.UnknownNode) = parent_of s parent ≡ None
IsChildMade s parent below (Err unregistered.Limit) =
    (is_some (parent_of s parent) ≡ true) × ¬ HasRoom s
IsChildMade s parent below (Err (unregistered.Id id_faults.TooLong)) =
    (above : Descriptor) × (parent_of s parent ≡ Some above) × HasRoom s
    × ¬ FitsLimits (below above).id
IsChildMade s parent below (Err (unregistered.Id _)) = ⊥
IsChildMade s parent below (Err unregistered.Memory) =
    (is_some (parent_of s parent) ≡ true) × HasRoom s

-- what the pass of a token knows
abbrev pub pass_of_token : SenderView → SenderPass
pass_of_token t =
    record { statics = length t.table; worker = t.worker; sent = t.sent; ended = true }
