use Rattle.std.proofs.Common.{length, refl, arith}
use Rattle.std.proofs.lemmas.Option.{slice_get_read}
use Rattle.tk_query.proofs.AskedLemmas.{AreFlags}
use Rattle.tk_streams.proofs.PieceLemmas.{on_ok}
use Rattle.tk_explanations.proofs.RowLemmas.{two_rows, one_row, no_row}
use Rattle.tk_explanations.proofs.UnlikeLemmas.{passed_none, passed_more, unlike_here, condition_left, event_left, none_left_over}
use Rattle.tk_explanations.proofs.exactly.add_unlike.Goals as goal

pub loop-number-init : goal.loop-number-init
loop-number-init c =
    let are : AreFlags c.args.events.now c.flags-flags.result.now = record { kept = c.flags-flags.ensures.kept } in
    (refl, passed_none c.args.events.now c.flags-flags.result.now c.args.conditions.now are)

pub returns-in_default : goal.returns-in_default
returns-in_default c =
    let cs = c.args.conditions.now in
    let k = c.loop-number.number in
    let x = c.index-conditions-number.result in
    let has = slice_get_read cs (length cs) k x refl (omega arith) c.index-conditions-number.is in
    two_rows c.args.rows.now.items c.loop-number.rows.items c.add_condition.new.rows.items c.push.new.self.items _ _ _ c.loop-number.invariant.0 c.in_ok-add_condition.ensures c.in_ok-push.ensures.items
    (condition_left c.args.events.now c.flags-flags.result.now c.flags-flags.ensures.size cs k c.loop-number.low c.loop-number.invariant.1 x has c.in_default.ensures.value)

pub returns-then-not-holds_at : goal.returns-then-not-holds_at
returns-then-not-holds_at c =
    let cs = c.args.conditions.now in
    let k = c.loop-number.number in
    let x = c.index-conditions-number.result in
    let has = slice_get_read cs (length cs) k x refl (omega arith) c.index-conditions-number.is in
    on_ok c.add_lacking.result _ _
    (λ last. two_rows c.args.rows.now.items c.loop-number.rows.items c.add_condition-then-not-holds_at.new.rows.items c.add_lacking.new.rows.items _ _ _ c.loop-number.invariant.0 c.in_ok-add_condition-2.ensures last
    (unlike_here c.args.events.now c.flags-flags.result.now c.flags-flags.ensures.size cs k c.loop-number.low c.loop-number.invariant.1 c.in-Some.position c.in-Some.ensures.value
    c.record-record.result.now c.record-record.ensures x has c.holds_at.result c.holds_at.ensures c.if-not-holds_at.true))
    c.add_lacking.ensures

pub loop-number-preserved : goal.loop-number-preserved
loop-number-preserved c =
    let cs = c.args.conditions.now in
    let k = c.loop-number.number in
    let x = c.index-conditions-number.result in
    let has = slice_get_read cs (length cs) k x refl (omega arith) c.index-conditions-number.is in (
      c.loop-number.invariant.0,
      passed_more c.args.events.now c.flags-flags.result.now c.flags-flags.ensures.size cs k c.loop-number.low c.loop-number.invariant.1 c.in-Some.position c.in-Some.ensures.value
          c.record-record.result.now c.record-record.ensures x has c.holds_at.result c.holds_at.ensures c.if-not-holds_at.false,
    )

pub returns-in_default-first_from : goal.returns-in_default-first_from
returns-in_default-first_from c =
    no_row c.args.rows.now.items c.loop-number.rows.items _ c.loop-number.invariant.0
    (none_left_over c.args.events.now c.flags-flags.result.now c.flags-flags.ensures.size c.args.conditions.now c.loop-number.number c.loop-number.low c.loop-number.invariant.1 (omega arith) c.in_default-first_from.ensures.value)

pub returns : goal.returns
returns c =
    one_row c.args.rows.now.items c.loop-number.rows.items c.push-2.new.self.items _ _ c.loop-number.invariant.0 c.in_ok-push-2.ensures.items
    (event_left c.args.events.now c.flags-flags.result.now c.flags-flags.ensures.size c.args.conditions.now c.loop-number.number c.loop-number.low c.loop-number.invariant.1 c.in-Some-first_from.position c.in-Some-first_from.ensures.value (omega arith))
