use Rattle.std.proofs.Common.{arith, refl, sym, ap, ◌∙◌, ◌≡◌}
use Rattle.std.proofs.lemmas.Result.{IfOk-weaker}
use Rattle.tk_queue_session.specs.Limits.{capacity_of}
use Rattle.tk_engine_execute.specs.Results.{RunResults}
use Rattle.tk_engine_execute.specs.declared.run_faults.RunFault.TheVariants.{Engine, Memory}
use Rattle.tk_engine_execute.specs.steps.Workers.{run_units}
use Rattle.tk_engine_execute.proofs.FailedRuns.{nothing_recorded}
use Rattle.tk_engine_execute.proofs.Outcomes.{is_collected}
use Rattle.tk_engine_execute.proofs.ReceiverStates.{fresh_collector, has_recorded}
use Rattle.tk_engine_execute.proofs.runs.run.Goals as goal

pub run_workers-collected-requires-clause-ready : goal.run_workers-collected-requires-clause-ready
run_workers-collected-requires-clause-ready g c κs within =
    let start = c.in-Ok.ensures in
    let many = start.many in
    let room = start.room in record {
      unstarted = start.unstarted;
      collector = fresh_collector _ _ c.requires.workers.few start.collector;
      empty = start.empty;
      room = omega (arith, many, room);
    }

pub finish-requires-clause-table : goal.finish-requires-clause-table
finish-requires-clause-table g c κs within = c.run_workers-collected.ensures.took_more.table ∙ c.in-Ok.ensures.collector.table_is

pub finish-requires-clause-recorded : goal.finish-requires-clause-recorded
finish-requires-clause-recorded g c κs within = has_recorded _ _ _ c.in-Ok.ensures.collector c.run_workers-collected.ensures.took_more

pub finish-requires-clause-collected : goal.finish-requires-clause-collected
finish-requires-clause-collected g c κs within =
    let start = c.in-Ok.ensures in
    is_collected (run_units c.in-Ok.start.claim (g.E.Engine.may c.args.engine.now) (g.E.Engine.units c.args.engine.now) (g.E.Engine.fails c.args.engine.now)) c.args.workers _ _ _ _ c.requires.workers.some refl start.collector start.many c.run_workers-collected.ensures

pub returns-in-Err-clause-answer : goal.returns-in-Err-clause-answer
returns-in-Err-clause-answer g c =
    let made = c.without_record.ensures in record {
      run = tt;
      tally = tt;
      of_capacity = tt;
      failed = nothing_recorded _ c.args.workers c.without_record.result made.recorded made.closed (λ unit why is. let clash : Memory ≡ Engine unit why = sym made.fault ∙ is in cc);
    }

pub returns-clause-answer : goal.returns-clause-answer
returns-clause-answer g c =
    let asked = c.in-Ok.ensures.collector.of_capacity in record {
      run = c.finish.ensures.run;
      tally = c.finish.ensures.tally;
      of_capacity = IfOk-weaker c.finish.result _ (λ (r : RunResults). capacity_of r.closed.session ≡ c.args.capacity) (λ r same. ap (λ s. capacity_of s) (same ∙ c.run_workers-collected.ensures.took_more.session) ∙ asked) c.finish.ensures.session;
      failed = c.finish.ensures.failed;
    }
