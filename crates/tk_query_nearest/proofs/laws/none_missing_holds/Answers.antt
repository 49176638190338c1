use Rattle.tk_query_nearest.proofs.HoldingLemmas.{none_missing}
use Rattle.tk_query_nearest.proofs.laws.none_missing_holds.Goals as goal

pub returns : goal.returns
returns c = none_missing
