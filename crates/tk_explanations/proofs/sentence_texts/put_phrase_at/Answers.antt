use Rattle.std.proofs.Common.{◌∙◌}
use Rattle.tk_streams.proofs.PieceLemmas.{adds_as}
use Rattle.tk_explanations.proofs.PieceRows.{◌▹◌}
use Rattle.tk_explanations.proofs.sentence_texts.put_phrase_at.Goals as goal

pub returns : goal.returns
returns g c =
    adds_as _ _ _ _ (c.as_bytes.ensures.value ∙ c.phrase_of.ensures) c.put.ensures
    ▹ c.put-2.ensures ▹ c.put_number.ensures
