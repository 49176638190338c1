use Rattle.std.proofs.Common.{◌-◌, length}
use Rattle.tk_query_lifecycle.proofs.LoopLemmas.{AreFollowed}
use Rattle.tk_query_lifecycle.proofs.lifecycle_check.lifecycle.Given as goal

abbrev pub invariant-events : goal.invariant-events
invariant-events l = AreFollowed l.«record» l.position l.progress.states l.progress.ids

abbrev pub decreases-events : goal.decreases-events
decreases-events l = length l.«record».entries - l.position
