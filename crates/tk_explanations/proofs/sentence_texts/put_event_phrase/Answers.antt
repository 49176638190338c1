use Rattle.tk_explanations.proofs.PieceRows.{◌▹◌}
use Rattle.tk_explanations.proofs.sentence_texts.put_event_phrase.Goals as goal

pub returns : goal.returns
returns g c = c.put_descriptor_of.ensures ▹ c.put.ensures ▹ c.put_phrase_at.ensures
