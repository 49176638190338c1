-- What events do to executions, position by position.
use Rattle.std.specs.Prelude.{ℕ, Option, Some, None}
use Rattle.std.specs.Option.{option_and_then}
use Rattle.tk_events.specs.declared.kinds.Kind.{Kind}
use Rattle.tk_events.specs.declared.kinds.Kind.TheVariants as kind
use Rattle.tk_events.specs.declared.outcomes.Outcome.{Outcome}
use Rattle.tk_events.specs.declared.outcomes.Outcome.TheVariants as outcomes
use Rattle.tk_events.specs.declared.payloads.Payload.{Payload}
use Rattle.tk_events.specs.declared.payloads.Payload.TheVariants as payloads
use Rattle.tk_events.specs.declared.events.Entry.{Entry}
use Rattle.tk_record.specs.Selections.{Selected}
use Rattle.tk_query.specs.Asked.{event_at}
use Rattle.tk_query.specs.declared.execution.Ending.{Ending}
use Rattle.tk_query.specs.declared.execution.Ending.TheVariants.{Aborted, Successful, Failed}
use Rattle.tk_query.specs.declared.execution_steps.Transition.{Transition}
use Rattle.tk_query.specs.declared.execution_steps.Transition.TheVariants.{Starts, Skips, Ends}
use Rattle.tk_query.specs.declared.execution_steps.ExecutionStep.{ExecutionStep}

-- how an execution ends whose finish has this outcome
abbrev pub ending_of : Outcome → Ending
ending_of outcomes.Successful = Successful
ending_of (outcomes.Aborted _) = Aborted
ending_of (outcomes.Failed _) = Failed

-- what an event does to the execution of its key
abbrev pub transition_of : Kind → Payload → Option Transition
transition_of kind.Started payload = Some Starts
transition_of kind.Skipped payload = Some Skips
transition_of kind.Finished (payloads.Outcome outcome) = Some (Ends (ending_of outcome))
transition_of _ _ = None

-- the step of an event with this transition
abbrev pub with_transition : Entry → Option Transition → Option ExecutionStep
with_transition e None = None
with_transition e (Some transition) =
    Some (record { key = e.event.key; stamp = e.event.stamp; transition = transition })

-- what an event does, if it starts, skips or ends an execution
abbrev pub step_of : Entry → Option ExecutionStep
step_of e = with_transition e (transition_of e.event.kind e.event.payload)

-- what the event asked at this position of the record does
abbrev pub step_at : Selected → ℕ → Option ExecutionStep
step_at asked position = option_and_then step_of (event_at asked.kept position)
