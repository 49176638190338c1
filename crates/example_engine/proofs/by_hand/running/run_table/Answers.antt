use Rattle.std.proofs.Common.{refl}
use Rattle.std.proofs.lemmas.Result.{on_ok_weaker}
use Rattle.engine_testkit.proofs.Emissions.{emitted_first, emitted_then}
use Rattle.engine_testkit.proofs.SinkGrowth.{grew_refl, grew_trans}
use Rattle.engine_testkit.specs.Grown.{AnyEvent}
use Rattle.example_engine.proofs.by_hand.running.run_table.Goals as goal

pub returns-in_err-copy-in-Some-clause-grew : goal.returns-in_err-copy-in-Some-clause-grew
returns-in_err-copy-in-Some-clause-grew g c = grew_refl AnyEvent _

pub returns-in_err-start-in-None-clause-grew : goal.returns-in_err-start-in-None-clause-grew
returns-in_err-start-in-None-clause-grew g c = c.start.ensures.grew

pub returns-in_err-run_cases-in-None-clause-grew : goal.returns-in_err-run_cases-in-None-clause-grew
returns-in_err-run_cases-in-None-clause-grew g c = grew_trans AnyEvent _ _ _ c.start.ensures.grew c.run_cases.ensures.grew

pub returns-in_ok-copy-in-Some-clause-grew : goal.returns-in_ok-copy-in-Some-clause-grew
returns-in_ok-copy-in-Some-clause-grew g c = c.skip.ensures.grew

pub returns-in_ok-run_cases-in-None-clause-ok : goal.returns-in_ok-run_cases-in-None-clause-ok
returns-in_ok-run_cases-in-None-clause-ok g c =
    let runs = c.in_ok-run_cases-in-None.ensures.ok in
    rw c.in-None.is (on_ok_weaker c.finish_table.result (λ last. record {
      events = _;
      emitted = emitted_first _ _ _ _ _ c.in_ok-start-in-None.ensures.ok (emitted_then _ _ _ _ _ runs.emitted last);
      holds = (runs.events, runs.holds, refl);
    }) c.finish_table.ensures.ok)

pub returns-in_ok-run_cases-in-None-clause-grew : goal.returns-in_ok-run_cases-in-None-clause-grew
returns-in_ok-run_cases-in-None-clause-grew g c =
    let run = grew_trans AnyEvent _ _ _ c.start.ensures.grew c.run_cases.ensures.grew in
    grew_trans AnyEvent _ _ _ run c.finish_table.ensures.grew
