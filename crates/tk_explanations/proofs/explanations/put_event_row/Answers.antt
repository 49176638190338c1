use Rattle.tk_explanations.specs.Rows.{event_row}
use Rattle.tk_explanations.proofs.PieceRows.{none_added}
use Rattle.std.proofs.Common.{refl}
use Rattle.tk_explanations.proofs.explanations.put_event_row.Goals as goal

pub returns-in_default : goal.returns-in_default
returns-in_default g c =
    let r = c.args.«record».now in
    none_added _ (λ o. event_row r c.args.position o c.args.note.now) r.entries c.args.position refl c.in_default.ensures.there.1
