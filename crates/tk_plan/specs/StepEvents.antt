-- The event of a step.
use Rattle.std.specs.Prelude.{[], unwrap_or, slice_get}
use Rattle.tk_events.specs.declared.kinds.Kind.{Kind}
use Rattle.tk_events.specs.declared.kinds.Kind.TheVariants as kinds
use Rattle.tk_events.specs.declared.payloads.Payload.{Payload}
use Rattle.tk_events.specs.declared.payloads.Payload.TheVariants as payloads
use Rattle.tk_events.specs.declared.events.Event.{Event}
use Rattle.tk_plan.specs.declared.trees.nodes.Node.{Node}
use Rattle.tk_plan.specs.declared.scripts.steps.Act.{Act}
use Rattle.tk_plan.specs.declared.scripts.steps.Act.TheVariants.{Register, Skip, Start}
use Rattle.tk_plan.specs.declared.scripts.steps.Act.TheVariants.{Report, File}
use Rattle.tk_plan.specs.declared.scripts.steps.Act.TheVariants.{Finish}
use Rattle.tk_plan.specs.declared.scripts.steps.Step.{Step}
use Rattle.tk_plan.specs.Events.{event}

-- the kind of what a node does
abbrev pub kind_of : Act → Kind
kind_of (Register parent) = kinds.Dynamic
kind_of Skip = kinds.Skipped
kind_of Start = kinds.Started
kind_of (Report i) = kinds.Reporting
kind_of (File i) = kinds.File
kind_of Finish = kinds.Finished

-- The payload of that event. A registration has a descriptor, with an id that the node alone
-- doesn't have.
abbrev pub payload_of : Node → Act → Payload
payload_of n (Register parent) = payloads.Nothing
payload_of n Skip = payloads.Reason (unwrap_or n.skip [])
payload_of n Start = payloads.Nothing
payload_of n (Report i) = payloads.Report (unwrap_or (slice_get n.entries i) [])
payload_of n (File i) = payloads.Path (unwrap_or (slice_get n.files i) [])
payload_of n Finish = payloads.Outcome n.outcome

-- the event of a step that isn't a registration, of a node that has its number as its key
abbrev pub event_of_step : Node → Step → Event
event_of_step n s = event (kind_of s.act) s.node s.stamp (payload_of n s.act)
