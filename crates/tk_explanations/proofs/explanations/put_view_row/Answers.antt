use Rattle.tk_explanations.proofs.PieceRows.{◌▹◌}
use Rattle.tk_explanations.proofs.explanations.put_view_row.Goals as goal

pub returns : goal.returns
returns g c =
    c.put.ensures ▹ c.put_number.ensures ▹ c.put-2.ensures ▹ c.put_event_text.ensures
    ▹ c.put_note.ensures
