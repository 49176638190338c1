use Rattle.std.proofs.Common.{◌≡◌, refl, ◌||◌, [], drop, map, ap, ◌∙◌, arith}
use Rattle.std.proofs.lemmas.List.{drop_all}
use Rattle.std.proofs.lemmas.Result.{err_from_is_err_and}
use Rattle.std.specs.List.{list_all}
use Rattle.serde_json.specs.View.{view}
use Rattle.tk_events.specs.Event.{is_strictly_increasing}
use Rattle.tk_plan_json.proofs.HandedFaults.{refuses_whole}
use Rattle.tk_plan_json.proofs.Items.{values_next}
use Rattle.tk_plan_json.proofs.EntryPairs.{report_start, report_next, report_fault, report_end}
use Rattle.tk_plan_json.proofs.members.result_members.entries.Goals as goal

pub loop-index-init : goal.loop-index-init
loop-index-init c = report_start _ _ _ _ _ c.in-Some.ensures refl c.in_ok-entries.ensures.items

pub loop-index-preserved : goal.loop-index-preserved
loop-index-preserved c =
    let r = c.in_ok-report.ensures in
    let split = values_next c.in-Some.items.now c.loop-index.index c.index-items-index.result c.loop-index-test.true c.index-items-index.is in
    report_next _ _ _ _ _ _ c.loop-index.invariant _ _ _ _ _ split r.0 r.1.pairs r.1.increasing c.in_ok-push.ensures.items (ap (λ b. c.loop-index.repeats || b) r.1.repeats)

pub returns-in_err-report : goal.returns-in_err-report
returns-in_err-report c =
    let p = err_from_is_err_and c.from_residual-in_err-report.result c.from_residual-in_err-report.ensures.1 in
    let split = values_next c.in-Some.items.now c.loop-index.index c.index-items-index.result c.loop-index-test.true c.index-items-index.is in
    rw (p.1, p.2) (refuses_whole _ _ _ (λ path w. report_fault _ _ _ _ _ _ c.loop-index.invariant _ _ path split w) c.in_err-report.ensures)

pub returns : goal.returns
returns c =
    let items = c.in-Some.items.now in
    let none : drop c.loop-index.index items ≡ [] = drop_all c.loop-index.index items (omega arith) in
    let end = report_end _ _ _ _ _ _ c.loop-index.invariant (ap (map view) none) in
    (end.0, record { entries = c.new.ensures ∙ end.1; increasing = ap (list_all is_strictly_increasing) c.new.ensures ∙ c.loop-index.invariant.increasing; repeats = end.2 })
