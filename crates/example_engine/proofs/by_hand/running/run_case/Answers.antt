use Rattle.std.proofs.Common.{refl}
use Rattle.std.proofs.lemmas.Result.{on_ok_weaker}
use Rattle.engine_testkit.proofs.Emissions.{emitted_first}
use Rattle.engine_testkit.proofs.SinkGrowth.{grew_refl, grew_trans}
use Rattle.engine_testkit.specs.Grown.{AnyEvent}
use Rattle.example_engine.proofs.by_hand.running.run_case.Goals as goal

pub returns-in_err-name-clause-grew : goal.returns-in_err-name-clause-grew
returns-in_err-name-clause-grew g c = grew_refl AnyEvent _

pub returns-in_err-segment-clause-grew : goal.returns-in_err-segment-clause-grew
returns-in_err-segment-clause-grew g c = grew_refl AnyEvent _

pub returns-in_err-key-clause-grew : goal.returns-in_err-key-clause-grew
returns-in_err-key-clause-grew g c = c.register.ensures.grew

pub returns-clause-ok : goal.returns-clause-ok
returns-clause-ok g c =
    on_ok_weaker c.run_registered.result (λ rest. record {
      events = _;
      emitted = emitted_first _ _ _ _ _ c.in_ok-key.ensures.ok.emitted rest;
      holds = (c.in_ok-key.key, _, refl);
    }) c.run_registered.ensures.ok

pub returns-clause-grew : goal.returns-clause-grew
returns-clause-grew g c = grew_trans AnyEvent _ _ _ c.register.ensures.grew c.run_registered.ensures.grew
