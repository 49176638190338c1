use Rattle.std.proofs.Common.{◌≡◌, map}
use Rattle.tk_queue_replay.specs.ReplayText.{scripts_by}
use Rattle.tk_queue_replay.proofs.texts.scripts_of.Given as goal

abbrev pub invariant-loop-done : goal.invariant-loop-done
invariant-loop-done l = map (λ s. s.items) l.scripts.items ≡ scripts_by l.entries l.done
