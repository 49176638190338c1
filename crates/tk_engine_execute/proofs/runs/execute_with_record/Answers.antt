use Rattle.std.proofs.Common.{◌≡◌, sym, ◌∙◌}
use Rattle.tk_engine_execute.specs.Work.{engine_view}
use Rattle.tk_engine_execute.specs.declared.run_faults.RunFault.TheVariants.{Engine, Workers, Capacity}
use Rattle.tk_engine_execute.proofs.FailedRuns.{nothing_recorded, keeps_by}
use Rattle.tk_engine_execute.proofs.runs.execute_with_record.Goals as goal

pub returns-then-workers-eq0-clause-answer : goal.returns-then-workers-eq0-clause-answer
returns-then-workers-eq0-clause-answer g c =
    let made = c.without_record.ensures in record {
      run = tt;
      tally = tt;
      of_capacity = tt;
      failed = nothing_recorded _ c.args.workers c.without_record.result made.recorded made.closed (λ unit why is. let clash : Workers ≡ Engine unit why = sym made.fault ∙ is in cc);
    }

pub returns-then-workers-eq0-clause-kept : goal.returns-then-workers-eq0-clause-kept
returns-then-workers-eq0-clause-kept g c = rw c.without_record.ensures.recorded tt

pub returns-then-capacity-eq0-clause-answer : goal.returns-then-capacity-eq0-clause-answer
returns-then-capacity-eq0-clause-answer g c =
    let made = c.without_record-then-capacity-eq0.ensures in record {
      run = tt;
      tally = tt;
      of_capacity = tt;
      failed = nothing_recorded _ c.args.workers c.without_record-then-capacity-eq0.result made.recorded made.closed (λ unit why is. let clash : Capacity ≡ Engine unit why = sym made.fault ∙ is in cc);
    }

pub returns-then-capacity-eq0-clause-kept : goal.returns-then-capacity-eq0-clause-kept
returns-then-capacity-eq0-clause-kept g c = rw c.without_record-then-capacity-eq0.ensures.recorded tt

pub returns-clause-kept : goal.returns-clause-kept
returns-clause-kept g c =
    let view = engine_view (g.E.Engine.table c.args.engine.now) (g.E.Engine.units c.args.engine.now) (g.E.Engine.before c.args.engine.now) (g.E.Engine.after c.args.engine.now) (g.E.Engine.may c.args.engine.now) (g.E.Engine.fails c.args.engine.now) in
    keeps_by view c.args.workers c.run.result c.run.ensures.answer.failed
