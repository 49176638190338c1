use Rattle.std.proofs.Common.{◌≡◌, refl, ◌||◌, [], drop, map, sym, ap, ◌∙◌, arith}
use Rattle.std.proofs.lemmas.List.{drop_all}
use Rattle.std.proofs.lemmas.Result.{err_from_is_err_and}
use Rattle.serde_json.specs.View.{view}
use Rattle.tk_events.specs.Event.{is_strictly_increasing}
use Rattle.tk_plan_json.proofs.HandedFaults.{refuses_whole}
use Rattle.tk_plan_json.proofs.EntryPairs.{goes_start, goes_next, goes_fault, goes_end}
use Rattle.tk_plan_json.proofs.Items.{values_next}
use Rattle.tk_plan_json.proofs.members.result_members.entry.Goals as goal

pub loop-inner-init : goal.loop-inner-init
loop-inner-init c = goes_start _ _ _ _ _ c.in-Some.ensures refl c.new-map.ensures.empty

pub loop-inner-preserved : goal.loop-inner-preserved
loop-inner-preserved c =
    let t = c.in_ok-pair.ensures in
    let split = values_next c.in-Some.items.now c.loop-inner.inner c.index-items-inner.result c.loop-inner-test.true c.index-items-inner.is in
    let put = c.in_ok-repeats.ensures in
    goes_next _ _ _ _ _ _ c.loop-inner.invariant _ _ c.in_ok-pair.pair.first.now c.in_ok-pair.pair.second.now _ _ split t.0 t.1.first t.1.second put.pair (ap (λ x. c.loop-inner.repeats || x) put.repeats)

pub returns-in_err-pair : goal.returns-in_err-pair
returns-in_err-pair c =
    let p = err_from_is_err_and c.from_residual.result c.from_residual.ensures.1 in
    let split = values_next c.in-Some.items.now c.loop-inner.inner c.index-items-inner.result c.loop-inner-test.true c.index-items-inner.is in
    rw (p.1, p.2) (refuses_whole _ _ _ (λ path w. goes_fault _ _ _ _ _ _ c.loop-inner.invariant _ _ path split w) c.in_err-pair.ensures)

pub returns : goal.returns
returns c =
    let items = c.in-Some.items.now in
    let none : drop c.loop-inner.inner items ≡ [] = drop_all c.loop-inner.inner items (omega arith) in
    let end = goes_end _ _ _ _ _ _ c.loop-inner.invariant (ap (map view) none) in
    let pairs = c.in_ok-pairs.ensures in
    (end.0, record { pairs = pairs.pairs ∙ sym end.1; increasing = ap is_strictly_increasing pairs.pairs ∙ pairs.increasing; repeats = sym end.2 })
