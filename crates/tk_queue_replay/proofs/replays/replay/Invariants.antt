use Rattle.std.proofs.Common.{◌≡◌, length, take, map, Some}
use Rattle.std.specs.Arc.{arc_value}
use Rattle.tk_queue_replay.specs.Replay.{plays, start}
use Rattle.tk_queue_replay.specs.steps.Replay.{Suits}
use Rattle.tk_queue_replay.proofs.replays.replay.Given as goal

abbrev pub invariant-turns : goal.invariant-turns
invariant-turns l = record {
  suits : Suits l.playing (map (λ s. s.items) l.scripts);
  so_far : plays (map (λ s. s.items) l.scripts) (take l.number l.turns) (start (arc_value l.fn.table) (length (map (λ s. s.items) l.scripts))) ≡ Some l.playing;
}
