use Rattle.tk_query_lifecycle.proofs.EventLemmas.{sought_found}
use Rattle.tk_query_lifecycle.proofs.progress.Progress.seek_parent.Goals as goal

pub returns : goal.returns
returns c past same are =
    sought_found past c.args.id.now c.in-Some.parent c.in_ok-parent.field-0 c.find.result c.map.result c.in-Some.is c.in_ok-parent.ensures (c.find.ensures past same are) c.map.ensures.cases
