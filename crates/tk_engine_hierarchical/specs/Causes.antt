-- The cause with which a body ends that drops the fault of a child.
use Rattle.std.specs.Prelude.{Option, None, Some}
use Rattle.tk_events.specs.declared.events.Event.{Event}
use Rattle.tk_events.specs.declared.payloads.Payload.TheVariants.{Nothing}
use Rattle.tk_queue_session.specs.declared.sender_faults.SendFault.{SendFault}
use Rattle.tk_queue_session.specs.declared.sender_faults.SendFault.TheVariants.{Full, Limit}
use Rattle.tk_queue_session.specs.declared.sender_faults.SendFault.TheVariants.{Unlawful}
use Rattle.tk_queue_session.specs.declared.sender_faults.SendFault.TheVariants.{UnknownNode}
use Rattle.tk_engine_execute.specs.declared.engines.UnitFault.{UnitFault}
use Rattle.tk_engine_execute.specs.declared.engines.UnitFault.TheVariants.{Memory, Own, Sink, Text}
use Rattle.tk_engine_execute.specs.declared.sinks.SinkFault.TheVariants.{Register, Send}

-- an event without its payload
abbrev pub without_payload : Event → Event
without_payload e = record e { payload = Nothing }

-- the same refusal, of the event without its payload
abbrev pub send_cause_of : SendFault → SendFault
send_cause_of (UnknownNode e) = UnknownNode (without_payload e)
send_cause_of (Unlawful e) = Unlawful (without_payload e)
send_cause_of (Limit e) = Limit (without_payload e)
send_cause_of (Full e) = Full (without_payload e)

-- the cause of a fault: the fault itself, but of an event that the sink refused without its payload
abbrev pub cause_of : UnitFault → UnitFault
cause_of (Sink (Send fault)) = Sink (Send (send_cause_of fault))
cause_of (Sink (Register fault)) = Sink (Register fault)
cause_of Memory = Memory
cause_of (Own number) = Own number
cause_of (Text text) = Text text

-- the cause of the first fault
abbrev pub first_cause : Option UnitFault → UnitFault → Option UnitFault
first_cause (Some first) why = Some first
first_cause None why = Some (cause_of why)
