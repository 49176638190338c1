use Rattle.std.proofs.Common.{refl}
use Rattle.tk_explanations.specs.Rows.{descriptor_of}
use Rattle.tk_explanations.proofs.PieceRows.{none_added}
use Rattle.tk_explanations.proofs.explanations.put_descriptor_at.Goals as goal

pub returns-in_default : goal.returns-in_default
returns-in_default g c =
    let r = c.args.«record».now in
    none_added _ (descriptor_of r) r.entries c.args.position refl c.in_default.ensures.there.1
