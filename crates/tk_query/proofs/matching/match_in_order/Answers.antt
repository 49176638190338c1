use Rattle.std.proofs.Common.{arith, subst}
use Rattle.tk_query.specs.Asked.{fits}
use Rattle.tk_query.specs.InOrder.{HasNoFit, IsNextFit}
use Rattle.tk_query.proofs.AskedLemmas.{AreFlags}
use Rattle.tk_query.proofs.MatchLemmas.{all_left}
use Rattle.tk_query.proofs.InTurn.{reached_more, reached_stuck, reached_end}
use Rattle.tk_query.proofs.matching.match_in_order.Goals as goal

pub loop-k-preserved : goal.loop-k-preserved
loop-k-preserved c =
    let tests = fits c.args.events.now in
    let fit = subst (λ condition. IsNextFit tests condition c.loop-k.next c.in-Some.position) c.index-conditions-k.is c.in-Some.ensures.fit in
    rw c.in_ok-push.ensures.items
    (reached_more tests c.args.conditions.now c.loop-k.k c.loop-k.next c.loop-k.positions.items c.index-conditions-k.result c.in-Some.position c.loop-k.invariant (omega arith) fit)

pub returns-in_default : goal.returns-in_default
returns-in_default c =
    let tests = fits c.args.events.now in
    let none = subst (λ condition. HasNoFit tests condition c.loop-k.next) c.index-conditions-k.is c.in_default.ensures.fit in
    reached_stuck tests c.args.conditions.now c.loop-k.k c.loop-k.next c.loop-k.positions.items c.index-conditions-k.result c.loop-k.invariant (omega arith) none

pub returns : goal.returns
returns c =
    let reached = c.loop-k.invariant in
    reached_end (fits c.args.events.now) c.args.conditions.now c.loop-k.k c.loop-k.next c.loop-k.positions.items reached (omega (arith, reached.within))

pub next_fit-requires : goal.next_fit-requires
next_fit-requires c =
    let are : AreFlags c.args.events.now c.flags.result.now = record { kept = c.flags.ensures.kept } in
    all_left c.args.events.now c.flags.result.now are c.index-conditions-k.result
