use Rattle.std.proofs.Common.{vec_len}
use Rattle.tk_engine_execute.proofs.workers.threads.+spawn_workers.Given as goal

abbrev pub decreases-spawn_workers : goal.decreases-spawn_workers
decreases-spawn_workers g l = vec_len l.unstarted.now.senders
