use Rattle.tk_query_nearest.proofs.ElementLemmas.{lacking_exact}
use Rattle.tk_query_nearest.proofs.laws.lacking_is_exact.Goals as goal

pub returns : goal.returns
returns c = lacking_exact
