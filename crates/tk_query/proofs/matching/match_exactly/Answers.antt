use Rattle.std.proofs.Common.{arith}
use Rattle.tk_query.proofs.AskedLemmas.{AreFlags}
use Rattle.tk_query.proofs.MatchLemmas.{is_asked, matched_none, matched_more, matched_no, matched_all}
use Rattle.tk_query.proofs.matching.match_exactly.Goals as goal

pub events-init : goal.events-init
events-init c =
    let are : AreFlags c.args.events.now c.flags-flags.result.now = record { kept = c.flags-flags.ensures.kept } in
    matched_none c.args.events.now c.flags-flags.result.now c.args.conditions.now are

pub bounds-conditions-k : goal.bounds-conditions-k
bounds-conditions-k c =
    let asked = is_asked c.args.events.now c.flags-flags.result.now c.flags-flags.ensures.size c.args.conditions.now c.events.k c.events.low c.events.invariant c.in-Some.position c.in-Some.ensures.value in
    omega arith

pub overflow_add-k : goal.overflow_add-k
overflow_add-k c =
    let asked = is_asked c.args.events.now c.flags-flags.result.now c.flags-flags.ensures.size c.args.conditions.now c.events.k c.events.low c.events.invariant c.in-Some.position c.in-Some.ensures.value in
    omega (arith, c.count.type_inv)

pub returns-then-not-holds_at-clause-answer : goal.returns-then-not-holds_at-clause-answer
returns-then-not-holds_at-clause-answer c =
    let asked = is_asked c.args.events.now c.flags-flags.result.now c.flags-flags.ensures.size c.args.conditions.now c.events.k c.events.low c.events.invariant c.in-Some.position c.in-Some.ensures.value in (
      omega arith,
      matched_no c.args.events.now c.flags-flags.result.now c.flags-flags.ensures.size c.args.conditions.now c.events.k c.events.low c.events.invariant c.in-Some.position c.in-Some.ensures.value
          c.«record».result.now c.«record».ensures c.index-conditions-k.result c.index-conditions-k.is (omega arith) c.holds_at.result c.holds_at.ensures c.if-not-holds_at.true,
    )

pub events-preserved : goal.events-preserved
events-preserved c =
    let asked = is_asked c.args.events.now c.flags-flags.result.now c.flags-flags.ensures.size c.args.conditions.now c.events.k c.events.low c.events.invariant c.in-Some.position c.in-Some.ensures.value in
    matched_more c.args.events.now c.flags-flags.result.now c.flags-flags.ensures.size c.args.conditions.now c.events.k c.events.low c.events.invariant c.in-Some.position c.in-Some.ensures.value
    c.«record».result.now c.«record».ensures c.index-conditions-k.result c.index-conditions-k.is (omega arith) c.holds_at.result c.holds_at.ensures c.if-not-holds_at.false

pub returns-clause-answer : goal.returns-clause-answer
returns-clause-answer c = (
  omega arith,
  matched_all c.args.events.now c.flags-flags.result.now c.flags-flags.ensures.size c.args.conditions.now c.events.k c.events.low c.events.invariant (omega arith) c.in_default.ensures.value,
)
