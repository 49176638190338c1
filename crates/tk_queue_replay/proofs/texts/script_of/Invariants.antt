use Rattle.std.proofs.Common.{◌≡◌, take}
use Rattle.tk_record.specs.Mixing.{of_worker}
use Rattle.tk_queue_replay.proofs.texts.script_of.Given as goal

abbrev pub invariant-loop-entry : goal.invariant-loop-entry
invariant-loop-entry l = l.script.items ≡ of_worker l.worker (take l.entry-index l.entries)
