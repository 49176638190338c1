use Rattle.tk_query_lifecycle.proofs.EventLemmas.{progress_first}
use Rattle.tk_query_lifecycle.proofs.progress.Progress.new.Goals as goal

pub returns : goal.returns
returns c = progress_first c.args.record.now c.new.result c.new-2.result c.new.ensures c.new-2.ensures c.requires
