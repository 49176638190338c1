use Rattle.tk_engine_execute.specs.Grown.{Grew}
use Rattle.test_runs.proofs.engines.play.Given as goal

abbrev pub invariant-loop-step : goal.invariant-loop-step
invariant-loop-step g l = Grew (g.S.Sink.view l.initial.sink) (g.S.Sink.view l.sink)
