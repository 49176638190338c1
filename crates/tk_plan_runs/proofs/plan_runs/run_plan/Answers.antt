use Rattle.std.proofs.Common.{◌≡◌, Ok, Err, ap, sym, subst}
use Rattle.std.proofs.lemmas.Result.{err_from_is_err_and}
use Rattle.tk_plan.specs.Numbers.{IsNumbered}
use Rattle.tk_plan.specs.Planned.{Outline, IsPlanned}
use Rattle.tk_plan_reading.specs.PlanAnswers.{plan_in, Answered}
use Rattle.tk_plan_runs.proofs.RunEvents.{has_places, has_report, may_work, no_plan, not_run}
use Rattle.tk_plan_runs.proofs.plan_runs.run_plan.Goals as goal

pub returns-in_err-plan : goal.returns-in_err-plan
returns-in_err-plan g c =
    let p = err_from_is_err_and c.from_residual.result c.from_residual.ensures.1 in
    rw (p.1, p.2) (no_plan c.args.bytes.now c.args.workers c.in_err-plan.field-0.0 c.in_err-plan.ensures)

pub returns-in_err-results : goal.returns-in_err-results
returns-in_err-results g c =
    let p = err_from_is_err_and c.from_residual-in_err-results.result c.from_residual-in_err-results.ensures.1 in
    let fault = c.in_err-results.field-0.0 in
    let run = c.in_err-results.ensures in
    let plan = subst (λ (o : Outline). Answered (plan_in c.args.bytes.now) (Ok o)) (sym c.new-engine.ensures) c.in_ok-plan.ensures in
    rw (p.1, p.2) (not_run c.args.bytes.now c.args.workers c.new-engine.result plan fault (λ is. run.workers.0 (ap Err is)) (λ other. may_work c.args.workers (λ out. let bad = run.workers.1 out in other cc))
    (λ is. let bad = run.capacity.0 (ap Err is) in has_places bad.1) (λ unit why is. run.unit unit why (ap Err is)))

pub returns : goal.returns
returns g c =
    let engine = c.new-engine.result in
    let run = c.in_ok-results.results in
    let is : c.plan.result.now ≡ engine = c.plan.ensures in
    let plan = subst (λ (o : Outline). Answered (plan_in c.args.bytes.now) (Ok o)) (sym c.new-engine.ensures) c.in_ok-plan.ensures in
    let planned = subst (λ (p : Outline). IsPlanned p.nodes p.table) is c.table-table.ensures.planned in
    let numbered = subst (λ (p : Outline). IsNumbered p.nodes) is c.table-table.ensures.numbered in
    let same = c.report_is_unique.ensures engine.nodes engine.table c.args.workers run.recorded planned numbered c.in_ok-results.ensures.run in
    record {
      plan = plan;
      may_work = may_work c.args.workers (λ out. let bad = c.in_ok-results.ensures.workers.1 out in cc);
      is_run = c.in_ok-results.ensures.run;
      tally = c.in_ok-results.ensures.tally;
      of_capacity = c.in_ok-results.ensures.of_capacity;
      report = has_report c.args.bytes.now engine run.recorded plan same;
      keeps = c.lifecycle.ensures.keeps engine.nodes engine.table c.args.workers run.recorded planned numbered c.in_ok-results.ensures.run;
      kept = c.lifecycle.ensures.kept engine.nodes engine.table c.args.workers run.recorded planned numbered c.in_ok-results.ensures.run;
    }
