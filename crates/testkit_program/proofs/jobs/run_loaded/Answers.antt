use Rattle.std.proofs.Common.{ℕ, List, subst, sym}
use Rattle.tk_plan_runs.specs.Answers.{IsPlanRun}
use Rattle.testkit_program.proofs.Runs.{broken_target, plan_outcome}
use Rattle.testkit_program.proofs.jobs.run_loaded.Goals as goal

pub returns-clause-loaded : goal.returns-clause-loaded
returns-clause-loaded g c =
    let bytes = c.in-Ok.bytes.items in
    let ran = subst (λ (text : List ℕ). IsPlanRun text c.args.options.workers c.run_plan-run.result) c.as_slice.ensures.value c.run_plan-run.ensures in
    rw c.in-Ok.is (plan_outcome bytes c.args.options (g.T.Target.contents c.args.target.now) (g.T.Target.contents c.write_run.new.target) c.run_plan-run.result c.write_run.result ran
    c.write_run.ensures.not_run c.write_run.ensures.has_output c.write_run.ensures.run)

pub returns-clause-device : goal.returns-clause-device
returns-clause-device g c =
    broken_target c.as_slice.result.now c.args.options.workers c.run_plan-run.result c.write_run.result _ c.run_plan-run.ensures c.write_run.ensures.not_run c.write_run.ensures.device
