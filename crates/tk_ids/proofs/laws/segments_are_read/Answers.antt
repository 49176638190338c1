use Rattle.std.proofs.Common.{refl}
use Rattle.tk_ids.specs.IdText.{id_text}
use Rattle.tk_ids.proofs.IdSegmentLemmas.{segments_of-id_text}
use Rattle.tk_ids.proofs.laws.segments_are_read.Goals as goal

pub returns : goal.returns
returns c = λ id ok. segments_of-id_text (id_text id) id ok refl
