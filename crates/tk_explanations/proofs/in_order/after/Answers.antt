use Rattle.std.proofs.Common.{length, ap, ◌∙◌, arith}
use Rattle.tk_record.specs.Recorded.{Recorded}
use Rattle.tk_query.proofs.AskedLemmas.{AreFlags}
use Rattle.tk_explanations.proofs.Stuck.{fit_within}
use Rattle.tk_explanations.proofs.in_order.after.Goals as goal

pub overflow_add-result : goal.overflow_add-result
overflow_add-result c =
    let asked = c.args.events.now in
    let are : AreFlags asked c.flags-flags.result.now = record { kept = c.flags-flags.ensures.kept } in
    let some = c.requires c.in-Some.position c.in-Some.is in
    let within = fit_within asked c.flags-flags.result.now are c.flags-flags.ensures.size some.0 c.in-Some.position some.1 in
    let many = c.len-len.ensures.value ∙ ap (λ (r : Recorded). length r.entries) c.«record».ensures in
    let bound = c.len-len.ensures.bound in
    omega arith

pub returns-in-Some-clause-within : goal.returns-in-Some-clause-within
returns-in-Some-clause-within c =
    let asked = c.args.events.now in
    let are : AreFlags asked c.flags-flags.result.now = record { kept = c.flags-flags.ensures.kept } in
    let some = c.requires c.in-Some.position c.in-Some.is in
    let within = fit_within asked c.flags-flags.result.now are c.flags-flags.ensures.size some.0 c.in-Some.position some.1 in
    omega arith
