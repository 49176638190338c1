-- Which steps a plan has for its static nodes.
use Rattle.std.specs.Prelude.{◌≡◌, ℕ, List, Some, None, slice_get}
use Rattle.tk_ids.specs.declared.descriptors.Descriptor.{Descriptor}
use Rattle.tk_events.specs.declared.events.Event.{Event}
use Rattle.tk_events.specs.declared.kinds.Kind.TheVariants.{Finished, Skipped, Started}
use Rattle.tk_events.specs.declared.outcomes.Outcome.{Outcome}
use Rattle.tk_events.specs.declared.payloads.Payload.{Payload}
use Rattle.tk_events.specs.declared.payloads.Payload.TheVariants as payloads
use Rattle.tk_plan.specs.declared.trees.nodes.Node.{Node}
use Rattle.tk_plan.specs.Numbers.{in_order}
use Rattle.tk_plan.specs.Planned.{Outline}
use Rattle.tk_engine_unit_events.specs.Endings.{HasOutcome, IsStaticTest}

-- the node is skipped, and the payload has the reason
abbrev pub HasReason : Node → Payload → Type 0
HasReason n payload =
    (reason : List ℕ) × (n.skip ≡ Some reason) × (payload ≡ payloads.Reason reason)

-- An event that a node's key may have: it starts where the plan doesn't skip it, is skipped for the
-- plan's reason, and finishes, a static test with an outcome that the test may have, any other with
-- that of the plan.
pub record FitsNode (table : List Descriptor) (may_end : ℕ → Outcome → Type 0) (n : Node)
    (e : Event) : Type 0 where
  pub starts : e.kind ≡ Started → n.skip ≡ None
  pub skipped : e.kind ≡ Skipped → HasReason n e.payload
  pub ended : e.kind ≡ Finished → IsStaticTest table e.key → HasOutcome may_end e.key e.payload
  pub planned : e.kind ≡ Finished → ¬ IsStaticTest table e.key
      → e.payload ≡ payloads.Outcome n.outcome

-- the plan has a node whose number is the event's key, and that may have the event
pub record FitsPlan (plan : Outline) (may_end : ℕ → Outcome → Type 0) (e : Event) : Type 0 where
  pub node : Node
  pub its : slice_get (in_order plan.nodes) e.key ≡ Some node
  pub fits : FitsNode plan.table may_end node e
