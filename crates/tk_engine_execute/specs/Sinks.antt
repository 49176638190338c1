-- Why a sender, as a sink, took no event.
use Rattle.std.specs.Prelude.{◌≡◌, Some, Err}
use Rattle.tk_events.specs.declared.events.Event.{Event}
use Rattle.tk_queue_session.specs.Senders.{SenderView, refusal_of}
use Rattle.tk_queue_session.specs.Registering.{RegisterRequest, IsRegisteredAs}
use Rattle.tk_engine_execute.specs.declared.sinks.SinkFault.{SinkFault}
use Rattle.tk_engine_execute.specs.declared.sinks.SinkFault.TheVariants.{Send, Register}

-- the sender's own refusal of the event
abbrev pub IsSendCause : SenderView → Event → SinkFault → Type 0
IsSendCause s e (Send fault) = refusal_of s e ≡ Some fault
IsSendCause s e (Register fault) = ⊥

-- the sender's own refusal of the registration
abbrev pub IsRegisterCause :
    SenderView → SenderView → RegisterRequest → SinkFault → Type 0
IsRegisterCause old new ask (Send fault) = ⊥
IsRegisterCause old new ask (Register fault) = IsRegisteredAs old new ask (Err fault)
