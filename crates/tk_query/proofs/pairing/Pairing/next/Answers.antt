use Rattle.std.proofs.Common.{◌+◌, ◌<◌, ◌++◌, length, sym, ap, ◌∙◌, arith}
use Rattle.tk_query.specs.ExecutionSteps.{step_at}
use Rattle.tk_query.specs.Pairing.{open_of, rest_of, to_list}
use Rattle.tk_query.proofs.AskedLemmas.{AreFlags, step_set, step_clear}
use Rattle.tk_query.proofs.Paired.{rest_none, rest_step, rest_past, yields, none_ends}
use Rattle.tk_query.proofs.pairing.Pairing.next.Goals as goal

pub events-preserved-in_default-step_at : goal.events-preserved-in_default-step_at
unfolding rest_of
events-preserved-in_default-step_at c =
    let asked = c.args.events.now in
    let flags = c.flags.result.now in
    let are : AreFlags asked flags = record { kept = c.flags.ensures.kept } in
    let set = c.in-Some.ensures.value in
    let within : c.in-Some.position < length asked.recorded.entries = let lt = c.in-Some.ensures.bound.0 in omega (arith, lt, c.flags.ensures.size) in
    let here = step_set asked flags are c.«record».result.now c.«record».ensures c.in-Some.position c.step_at.result set.set c.step_at.ensures ∙ c.in_default-step_at.is in
    record {
      slots = c.events.invariant.slots;
      rest = c.events.invariant.rest
          ∙ rest_none (step_at asked) (length asked.recorded.entries) c.events.self.next c.in-Some.position (open_of c.events.self.starts) set.from within
          (λ i low high. step_clear asked flags are i (set.least i low high)) here;
    }

pub returns-then-is_some-clause-next : goal.returns-then-is_some-clause-next
unfolding rest_of
returns-then-is_some-clause-next c =
    let asked = c.args.events.now in
    let flags = c.flags.result.now in
    let are : AreFlags asked flags = record { kept = c.flags.ensures.kept } in
    let set = c.in-Some.ensures.value in
    let within : c.in-Some.position < length asked.recorded.entries = let lt = c.in-Some.ensures.bound.0 in omega (arith, lt, c.flags.ensures.size) in
    let here = step_set asked flags are c.«record».result.now c.«record».ensures c.in-Some.position c.step_at.result set.set c.step_at.ensures ∙ c.in-Some-step_at.is in
    let left =
    c.events.invariant.rest
    ∙ rest_step (step_at asked) (length asked.recorded.entries) c.events.self.next c.in-Some.position (open_of c.events.self.starts) (open_of c.take_step-ended.new.starts) c.in-Some-step_at.step set.from within
    (λ i low high. step_clear asked flags are i (set.least i low high)) here c.take_step-ended.ensures.starts
    ∙ ap (λ o. to_list o ++ rest_of asked (record { starts = c.take_step-ended.new.starts; next = c.in-Some.position + 1 })) (sym c.take_step-ended.ensures.ended) in
    yields _ _ c.take_step-ended.result (sym c.is_some.ensures ∙ c.if-is_some.true) left

pub events-preserved : goal.events-preserved
unfolding rest_of
events-preserved c =
    let asked = c.args.events.now in
    let flags = c.flags.result.now in
    let are : AreFlags asked flags = record { kept = c.flags.ensures.kept } in
    let set = c.in-Some.ensures.value in
    let within : c.in-Some.position < length asked.recorded.entries = let lt = c.in-Some.ensures.bound.0 in omega (arith, lt, c.flags.ensures.size) in
    let here = step_set asked flags are c.«record».result.now c.«record».ensures c.in-Some.position c.step_at.result set.set c.step_at.ensures ∙ c.in-Some-step_at.is in
    let left =
    c.events.invariant.rest
    ∙ rest_step (step_at asked) (length asked.recorded.entries) c.events.self.next c.in-Some.position (open_of c.events.self.starts) (open_of c.take_step-ended.new.starts) c.in-Some-step_at.step set.from within
    (λ i low high. step_clear asked flags are i (set.least i low high)) here c.take_step-ended.ensures.starts
    ∙ ap (λ o. to_list o ++ rest_of asked (record { starts = c.take_step-ended.new.starts; next = c.in-Some.position + 1 })) (sym c.take_step-ended.ensures.ended) in
    record {
      slots = record { each = λ i e at. c.take_step-ended.ensures.slots e.event.key (c.events.invariant.slots.each i e at) };
      rest = none_ends _ _ c.take_step-ended.result (sym c.is_some.ensures ∙ c.if-is_some.false) left;
    }

pub returns-clause-next : goal.returns-clause-next
unfolding rest_of
returns-clause-next c =
    let asked = c.args.events.now in
    let flags = c.flags.result.now in
    let are : AreFlags asked flags = record { kept = c.flags.ensures.kept } in
    let clear = c.in_default.ensures.value in
    let past = rest_past (step_at asked) (length asked.recorded.entries) c.events.self.next (open_of c.events.self.starts) (λ i low. step_clear asked flags are i (clear.none i low)) in
    (c.events.invariant.rest ∙ past, past)
