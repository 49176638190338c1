use Rattle.std.proofs.Common.{arith}
use Rattle.tk_query.proofs.MatchLemmas.{loose_more, loose_no}
use Rattle.tk_query.proofs.matching.match_loosely.Goals as goal

pub loop-k-preserved : goal.loop-k-preserved
loop-k-preserved c =
    loose_more c.args.events.now c.args.conditions.now c.loop-k.k c.index-conditions-k.result c.in_ok-first_fit.field-0 c.is_none.result c.loop-k.invariant (omega arith) c.index-conditions-k.is
    c.in_ok-first_fit.ensures c.is_none.ensures c.if-is_none.false

pub returns-then-is_none : goal.returns-then-is_none
returns-then-is_none c =
    loose_no c.args.events.now c.args.conditions.now c.loop-k.k c.index-conditions-k.result c.in_ok-first_fit.field-0 c.is_none.result c.loop-k.invariant (omega arith) c.index-conditions-k.is
    c.in_ok-first_fit.ensures c.is_none.ensures c.if-is_none.true
