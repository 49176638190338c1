use Rattle.tk_plan_runs.proofs.RunEvents.{read_back}
use Rattle.tk_plan_runs.proofs.laws.run_is_read_back.Goals as goal

pub returns : goal.returns
returns c = read_back c.what_is_written_is_read.ensures
