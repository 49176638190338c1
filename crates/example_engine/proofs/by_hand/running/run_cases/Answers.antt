use Rattle.engine_testkit.proofs.Emissions.{emitted_as_then}
use Rattle.engine_testkit.proofs.SinkGrowth.{grew_trans}
use Rattle.engine_testkit.specs.Grown.{AnyEvent}
use Rattle.example_engine.proofs.MoreCases.{one_case_more}
use Rattle.example_engine.proofs.by_hand.running.run_cases.Goals as goal

pub loop-index-preserved : goal.loop-index-preserved
loop-index-preserved g c = record {
  runs = emitted_as_then _ _ _ _ _ _ c.loop-index.invariant.runs c.in_ok-run_case.ensures.ok (λ xs ys h k. one_case_more _ _ _ _ xs ys c.loop-index-test.true h k);
  grew = grew_trans AnyEvent _ _ _ c.loop-index.invariant.grew c.run_case.ensures.grew;
}
