use Rattle.std.proofs.Common.{inr, refl}
use Rattle.std.proofs.lemmas.Result.{err_from_is_err_and}
use Rattle.tk_plan_runs.proofs.RunEvents.{no_device, not_reported, reported, untouched}
use Rattle.tk_plan_runs.specs.Answers.{OfPlan}
use Rattle.tk_plan_runs.proofs.reporting.plan_report.Goals as goal

pub returns-in_err-run : goal.returns-in_err-run
returns-in_err-run g c =
    let p = err_from_is_err_and c.from_residual.result c.from_residual.ensures.1 in
    let fault = c.in_err-run.field-0.0 in
    rw (p.1, p.2) (record {
      answer = not_reported (OfPlan c.args.bytes.now) c.args.bytes.now c.args.workers _ _ fault c.in_err-run.ensures;
      unwritten = inr refl;
      device = λ e. absurd (no_device c.args.bytes.now c.args.workers fault c.in_err-run.ensures e);
    })

pub returns-clause-answer : goal.returns-clause-answer
returns-clause-answer g c =
    reported c.args.bytes.now c.args.workers (g.T.Target.contents c.args.target.now) (g.T.Target.contents c.write_report.new.target) c.in_ok-run.run' c.write_report.result
    c.in_ok-run.ensures c.write_report.ensures.answer

pub returns-clause-unwritten : goal.returns-clause-unwritten
returns-clause-unwritten g c =
    untouched c.in_ok-run.run'.results.recorded (g.T.Target.contents c.args.target.now) (g.T.Target.contents c.write_report.new.target) c.write_report.result _
    c.write_report.ensures.answer c.write_report.ensures.unwritten
