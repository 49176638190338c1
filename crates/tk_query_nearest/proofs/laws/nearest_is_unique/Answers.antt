use Rattle.tk_query_nearest.proofs.NearestIsUnique.{one_nearest}
use Rattle.tk_query_nearest.proofs.laws.nearest_is_unique.Goals as goal

pub returns : goal.returns
returns c = one_nearest
