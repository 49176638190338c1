use Rattle.std.proofs.Common.{min, refl, ap, ◌∙◌, arith}
use Rattle.tk_record.specs.Record.{entry_of_view}
use Rattle.tk_query_nearest.specs.Parts.{missing}
use Rattle.tk_query_conditions.proofs.ReaderLemmas.{not_empty}
use Rattle.tk_query_nearest.proofs.TakenLemmas.{all_is, any_is, total_taken, total_full, fewest_taken, fewest_all, fewest_none}
use Rattle.tk_query_nearest.proofs.parts.+distances.Goals as goal

pub distance_of_all-returns-then-total-most : goal.distance_of_all-returns-then-total-most
distance_of_all-returns-then-total-most t c =
    total_full c.args.«record».now (entry_of_view c.args.event.now) c.args.most
    c.args.members.now c.loop-member.member-index c.loop-member.total c.loop-member.invariant
    c.if-total-most.true

pub distance_of_all-loop-member-preserved : goal.distance_of_all-loop-member-preserved
distance_of_all-loop-member-preserved t c =
    total_taken c.args.«record».now (entry_of_view c.args.event.now) c.args.most
    c.args.members.now c.loop-member.member-index c.member-item.result c.loop-member.total
    c.distance_up_to-total.result _ c.loop-member-test.true c.member-item.is
    c.loop-member.invariant c.distance_up_to-total.ensures refl

pub distance_of_any-returns-then-fewest-eq0 : goal.distance_of_any-returns-then-fewest-eq0
distance_of_any-returns-then-fewest-eq0 t c =
    let lt = c.loop-member-test.true in
    fewest_none c.args.«record».now (entry_of_view c.args.event.now) c.args.most
    c.args.members.now c.loop-member.member-index c.loop-member.fewest (omega arith)
    c.loop-member.invariant c.if-fewest-eq0.true

pub distance_of_any-loop-member-preserved : goal.distance_of_any-loop-member-preserved
distance_of_any-loop-member-preserved t c =
    fewest_taken c.args.«record».now (entry_of_view c.args.event.now) c.args.most
    c.args.members.now c.loop-member.member-index c.member-item.result c.loop-member.fewest
    c.distance_up_to-fewest.result c.loop-member-test.true c.member-item.is
    c.loop-member.invariant c.distance_up_to-fewest.ensures

pub distance_of_any-returns : goal.distance_of_any-returns
distance_of_any-returns t c =
    fewest_all c.args.«record».now (entry_of_view c.args.event.now) c.args.most
    c.args.members.now c.loop-member.member-index c.loop-member.fewest
    (not_empty c.args.members.now _ c.is_empty.ensures c.if-is_empty.false)
    c.loop-member-test.false c.loop-member.invariant

pub distance_up_to-returns-in-All : goal.distance_up_to-returns-in-All
distance_up_to-returns-in-All t c =
    c.distance_of_all.ensures
    ∙ ap (λ d. min (missing c.args.«record».now d (entry_of_view c.args.event.now)) c.args.most)
    (all_is c.args.condition.now c.in-All.members c.deref.result.now c.in-All.is
    c.deref.ensures.value)

pub distance_up_to-returns-in-Any : goal.distance_up_to-returns-in-Any
distance_up_to-returns-in-Any t c =
    c.distance_of_any.ensures
    ∙ ap (λ d. min (missing c.args.«record».now d (entry_of_view c.args.event.now)) c.args.most)
    (any_is c.args.condition.now c.in-Any.members c.deref-in-Any.result.now c.in-Any.is
    c.deref-in-Any.ensures.value)
