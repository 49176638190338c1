use Rattle.engine_testkit.specs.Emitted.{EmittedAs}
use Rattle.engine_testkit.specs.Grown.{Grew}
use Rattle.example_engine.specs.Running.{AreCaseRuns}
use Rattle.example_engine.proofs.by_hand.running.run_cases.Given as goal

-- the cases so far were run
abbrev pub invariant-loop-index : goal.invariant-loop-index
invariant-loop-index g l = record {
  runs : EmittedAs (AreCaseRuns (g.F.Function.value l.function) l.cases l.index) (g.S.Sink.view l.initial.sink) (g.S.Sink.view l.sink);
  grew : Grew (g.S.Sink.view l.initial.sink) (g.S.Sink.view l.sink);
}
