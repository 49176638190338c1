use Rattle.std.proofs.Common.{take}
use Rattle.tk_engine_execute.specs.Engines.{IsSameSender}
use Rattle.tk_engine_scripted.specs.steps.{kept, IsPlayed, begun}
use Rattle.tk_engine_scripted.proofs.playing.play_each.Given as goal

abbrev pub ghost-play : goal.ghost-play
ghost-play g a = g.sent

-- the steps before the next one were played
abbrev pub invariant-loop-at : goal.invariant-loop-at
invariant-loop-at g l =
    IsSameSender (g.S.Sink.view l.fn.sink) (g.S.Sink.view l.sink)
    × IsPlayed (begun l.plan.nodes l.plan.table (g.S.Sink.view l.fn.sink).worker g.sent) (take l.at l.steps) (g.S.Sink.view l.sink).sent (kept l.keys)
