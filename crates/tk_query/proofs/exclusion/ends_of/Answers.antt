use Rattle.std.proofs.Common.{arith}
use Rattle.tk_query.proofs.AskedLemmas.{AreFlags}
use Rattle.tk_query.proofs.EndLemmas.{all_found, none_found, skip_taken, span_taken, span_within}
use Rattle.tk_query.proofs.exclusion.ends_of.Goals as goal

pub executions-init : goal.executions-init
executions-init c =
    none_found c.args.events.now c.in_ok-pairing.pairing c.in_ok-ends.ends.items c.in_ok-pairing.ensures.slots c.in_ok-pairing.ensures.all
    c.in_ok-ends.ensures.size c.in_ok-ends.ensures.ends

pub index_mut-requires : goal.index_mut-requires
index_mut-requires c =
    let asked = c.args.events.now in
    let flags = c.flags-flags.result.now in
    let are : AreFlags asked flags = record { kept = c.flags-flags.ensures.kept } in
    let within = span_within asked c.executions.pairing c.next.new.self c.executions.ends.items c.executions.invariant c.in-Some.execution c.in-Some.ensures.next c.in-Some.ensures.slots flags are c.flags-flags.ensures.size c.if-execution.true in
    omega (arith, c.executions.ends.ok.0)

pub executions-preserved-then-execution : goal.executions-preserved-then-execution
executions-preserved-then-execution c =
    let asked = c.args.events.now in
    let flags = c.flags-flags.result.now in
    let are : AreFlags asked flags = record { kept = c.flags-flags.ensures.kept } in
    let within = span_within asked c.executions.pairing c.next.new.self c.executions.ends.items c.executions.invariant c.in-Some.execution c.in-Some.ensures.next c.in-Some.ensures.slots flags are c.flags-flags.ensures.size c.if-execution.true in
    span_taken asked c.executions.pairing c.next.new.self c.executions.ends.items c.executions.invariant c.in-Some.execution c.in-Some.ensures.next c.in-Some.ensures.slots c.if-execution.true within

pub executions-preserved : goal.executions-preserved
executions-preserved c =
    skip_taken c.args.events.now c.executions.pairing c.next.new.self c.executions.ends.items c.executions.invariant c.in-Some.execution c.in-Some.ensures.next c.in-Some.ensures.slots c.if-execution.false

pub returns : goal.returns
returns c =
    let asked = c.args.events.now in
    let flags = c.flags-flags.result.now in
    let are : AreFlags asked flags = record { kept = c.flags-flags.ensures.kept } in
    all_found asked flags are c.flags-flags.ensures.size c.executions.pairing c.executions.ends.items c.executions.invariant c.in_default.ensures.next.0
