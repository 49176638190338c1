use Rattle.tk_query_conditions.proofs.CondLemmas.{one_cond}
use Rattle.tk_query_conditions.proofs.laws.text_is_unique.Goals as goal

pub returns : goal.returns
returns c = one_cond
