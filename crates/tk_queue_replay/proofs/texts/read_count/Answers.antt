use Rattle.std.proofs.Common.{refl, sym}
use Rattle.tk_queue_replay.proofs.TextSteps.{count_found, count_none}
use Rattle.tk_queue_replay.proofs.texts.read_count.Goals as goal

pub returns-in-Some-read_workers : goal.returns-in-Some-read_workers
returns-in-Some-read_workers c = count_found c.args.input.now c.in-Some.line.now c.in-Some.more.now c.in-Some-read_workers.workers c.in-Some.ensures.0 (sym c.in-Some-read_workers.ensures)

pub returns-in-None : goal.returns-in-None
returns-in-None c = (refl, count_none c.args.input.now c.in-Some.line.now c.in-Some.more.now c.in-Some.ensures.0 c.in-Some.ensures.1 (sym c.in-None.ensures))
