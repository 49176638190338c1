use Rattle.tk_query_lifecycle.proofs.EventLemmas.{first_of_runs}
use Rattle.tk_query_lifecycle.proofs.progress.Progress.first_running.Goals as goal

pub returns : goal.returns
returns c r p = first_of_runs r c.args.self.now.states c.args.self.now.ids c.first_running.result p c.first_running.ensures
