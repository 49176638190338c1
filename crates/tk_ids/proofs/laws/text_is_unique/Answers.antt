use Rattle.tk_ids.proofs.ReadingLemmas.{text_is_unique}
use Rattle.tk_ids.proofs.laws.text_is_unique.Goals as goal

pub returns : goal.returns
returns c = text_is_unique
