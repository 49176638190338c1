use Rattle.std.proofs.Common.{◌≡◌, length}
use Rattle.tk_queue_replay.specs.steps.Replay.{turns_from}
use Rattle.tk_queue_replay.proofs.TurnSteps.{joined_with}
use Rattle.tk_queue_replay.proofs.lines.read_turn_fields.Given as goal

abbrev pub invariant-turns : goal.invariant-turns
invariant-turns l = turns_from l.workers l.fn.fields ≡ joined_with l.turns.items (turns_from l.workers l.rest)

abbrev pub decreases-turns : goal.decreases-turns
decreases-turns l = length l.rest
