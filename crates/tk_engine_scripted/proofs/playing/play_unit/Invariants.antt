use Rattle.tk_engine_scripted.proofs.playing.play_unit.Given as goal

abbrev pub ghost-play_each : goal.ghost-play_each
ghost-play_each g a = (g.S.Sink.view a.sink.now).sent
