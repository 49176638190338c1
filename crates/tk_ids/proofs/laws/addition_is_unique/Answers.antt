use Rattle.tk_ids.proofs.AdditionLemmas.{addition_is_unique}
use Rattle.tk_ids.proofs.laws.addition_is_unique.Goals as goal

pub returns : goal.returns
returns c = addition_is_unique
