use Rattle.std.proofs.Common.{map}
use Rattle.tk_queue_replay.proofs.Plays.{suits_taken}
use Rattle.tk_queue_replay.proofs.replays.Playing.turn.Goals as goal

pub returns-in-Ok-take-clause-suits : goal.returns-in-Ok-take-clause-suits
returns-in-Ok-take-clause-suits c = suits_taken (map (λ s. s.items) c.args.scripts.now) c.args.self.now c.take.new.self c.in-Ok-take.ensures.ok c.requires.suits
