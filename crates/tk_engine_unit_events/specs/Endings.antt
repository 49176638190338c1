-- How static tests may end.
use Rattle.std.specs.Prelude.{◌≡◌, ℕ, true, List, Some, slice_get}
use Rattle.tk_ids.specs.DTypes.{is_test}
use Rattle.tk_ids.specs.declared.descriptors.Descriptor.{Descriptor}
use Rattle.tk_events.specs.declared.events.Event.{Event}
use Rattle.tk_events.specs.declared.kinds.Kind.TheVariants.{Finished}
use Rattle.tk_events.specs.declared.outcomes.Outcome.{Outcome}
use Rattle.tk_events.specs.declared.payloads.Payload.{Payload}
use Rattle.tk_events.specs.declared.payloads.Payload.TheVariants as payloads

-- the key is that of a static descriptor which is a test
pub record IsStaticTest (table : List Descriptor) (key : ℕ) : Type 0 where
  pub descriptor : Descriptor
  pub described : slice_get table key ≡ Some descriptor
  pub test : is_test descriptor.dtype ≡ true

-- the payload is that of an outcome which the test with this key may have
abbrev pub HasOutcome : (ℕ → Outcome → Type 0) → ℕ → Payload → Type 0
HasOutcome may_end key payload = (o : Outcome) × may_end key o × (payload ≡ payloads.Outcome o)

-- where the key is a static test's, the payload is that of an outcome which the test may have
abbrev pub MayFinish : List Descriptor → (ℕ → Outcome → Type 0) → ℕ → Payload → Type 0
MayFinish table may_end key payload = IsStaticTest table key → HasOutcome may_end key payload

-- a finish of a static test has an outcome which the test may have
abbrev pub EndsAsItMay : List Descriptor → (ℕ → Outcome → Type 0) → Event → Type 0
EndsAsItMay table may_end e = e.kind ≡ Finished → MayFinish table may_end e.key e.payload
