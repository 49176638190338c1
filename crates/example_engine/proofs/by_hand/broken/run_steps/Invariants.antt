use Rattle.engine_testkit.specs.Grown.{Grew}
use Rattle.example_engine.proofs.by_hand.broken.run_steps.Given as goal

abbrev pub invariant-loop-step : goal.invariant-loop-step
invariant-loop-step g l = Grew (g.S.Sink.view l.initial.sink) (g.S.Sink.view l.sink)
