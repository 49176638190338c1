use Rattle.std.proofs.Common.{◌≡◌, ◌+◌, ◌<◌, ◌∷◌, [], ◌++◌, sym, ap, subst, ◌∙◌, zero-add}
use Rattle.tk_queue_session.specs.Emission.{registrations}
use Rattle.tk_claims.specs.Claims.{ClaimSeatView}
use Rattle.tk_claims.specs.Run.{Emits}
use Rattle.tk_engine_execute.proofs.Emitted.{emits_more}
use Rattle.tk_engine_execute.proofs.workers.run_units.Goals as goal

pub returns-in-Err-clause-stopped : goal.returns-in-Err-clause-stopped
returns-in-Err-clause-stopped g c =
    let was = c.loop.invariant in
    let ran = c.in-Err.ensures.err in record {
      unspent = ap (λ (seat : ClaimSeatView). seat.spent) c.run_unit.ensures.drawn ∙ c.in-Some-draw.ensures.more;
      stopped = record {
        earlier = c.loop.handles.claim_seat.numbers;
        prefix = c.loop.handles.sender.sent;
        rest = ran.0;
        last = ap (λ (seat : ClaimSeatView). seat.numbers) c.run_unit.ensures.drawn ∙ c.in-Some-draw.ensures.drawn;
        cut = ran.1;
        emits = rw (c.run_unit.ensures.same.worker ∙ was.same.worker) was.emits;
      };
    }

pub loop-preserved : goal.loop-preserved
loop-preserved g c =
    let was = c.loop.invariant in
    let ran = c.in_default-run_unit.ensures.ok in
    let may = g.E.Engine.may c.args.engine.now in
    let w = c.args.handles.now.sender.worker in
    let u = c.in-Some-draw.unit in
    let us = c.loop.handles.claim_seat.numbers in
    let l = c.loop.handles.sender.sent in
    let step : may u w (0 + registrations l) ran.0 = rw (zero-add (registrations l)) (rw was.same.worker at ran.2) in
    let longer : Emits may w 0 (us ++ u ∷ []) (l ++ ran.0) = emits_more may w 0 us l u ran.0 was.emits step in
    let drawn : us ++ u ∷ [] ≡ c.run_unit.new.handles.claim_seat.numbers = sym (ap (λ (seat : ClaimSeatView). seat.numbers) c.run_unit.ensures.drawn ∙ c.in-Some-draw.ensures.drawn) in
    let emitted : l ++ ran.0 ≡ c.run_unit.new.handles.sender.sent = sym ran.1 in record {
      same = record { session = c.run_unit.ensures.same.session ∙ was.same.session; table = c.run_unit.ensures.same.table ∙ was.same.table; worker = c.run_unit.ensures.same.worker ∙ was.same.worker };
      claim = ap (λ (seat : ClaimSeatView). seat.claim) c.run_unit.ensures.drawn ∙ c.draw.ensures.claim ∙ was.claim;
      book = c.run_unit.ensures.book ∙ was.book;
      empty = c.run_unit.ensures.released;
      emits = rw (sym drawn, sym emitted) longer;
    }

pub draw-requires : goal.draw-requires
draw-requires g c = c.loop.invariant.claim ∙ c.requires.ready.claim_is

pub run_unit-requires-clause-unit : goal.run_unit-requires-clause-unit
run_unit-requires-clause-unit g c κs within = subst (λ n. c.in-Some-draw.unit < n) c.requires.limit c.in-Some-draw.ensures.below

pub run_unit-requires-clause-of_this : goal.run_unit-requires-clause-of_this
run_unit-requires-clause-of_this g c κs within = c.loop.invariant.book ∙ c.requires.ready.book_is

pub run_unit-requires-clause-empty : goal.run_unit-requires-clause-empty
run_unit-requires-clause-empty g c κs within = c.loop.invariant.empty

pub run_unit-requires-clause-table : goal.run_unit-requires-clause-table
run_unit-requires-clause-table g c κs within = c.loop.invariant.same.table ∙ c.requires.ready.table_is

pub returns-in-Err-clause-same : goal.returns-in-Err-clause-same
returns-in-Err-clause-same g c =
    let was = c.loop.invariant.same in
    let now = c.run_unit.ensures.same in
    record { session = now.session ∙ was.session; table = now.table ∙ was.table; worker = now.worker ∙ was.worker }

pub returns-in-Err-clause-claim : goal.returns-in-Err-clause-claim
returns-in-Err-clause-claim g c = ap (λ (seat : ClaimSeatView). seat.claim) c.run_unit.ensures.drawn ∙ c.draw.ensures.claim ∙ c.loop.invariant.claim

pub returns-in-Err-clause-failed : goal.returns-in-Err-clause-failed
returns-in-Err-clause-failed g c = (subst (λ n. c.in-Some-draw.unit < n) c.requires.limit c.in-Some-draw.ensures.below, c.in-Err.ensures.fails)
