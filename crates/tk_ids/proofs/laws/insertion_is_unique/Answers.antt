use Rattle.tk_ids.proofs.AdditionLemmas.{insertion_is_unique}
use Rattle.tk_ids.proofs.laws.insertion_is_unique.Goals as goal

pub returns : goal.returns
returns c = insertion_is_unique
