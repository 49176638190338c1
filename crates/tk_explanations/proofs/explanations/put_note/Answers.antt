use Rattle.std.proofs.Common.{◌∙◌}
use Rattle.std.specs.Prelude.{codes}
use Rattle.std.specs.Fmt.{decimal}
use Rattle.tk_streams.proofs.PieceLemmas.{adds_as, adds_both}
use Rattle.tk_explanations.proofs.explanations.put_note.Goals as goal

pub returns-in-Lacks : goal.returns-in-Lacks
returns-in-Lacks g c =
    rw c.in-Lacks.is (adds_both _ _ _ (codes "   does not hold: ") c.in-Lacks.members c.put.ensures (adds_as _ _ _ _ (c.as_bytes.ensures.value ∙ c.as_str.ensures) c.put-in-Lacks.ensures))

pub returns-in-NotAfter : goal.returns-in-NotAfter
returns-in-NotAfter g c =
    rw c.in-NotAfter.is (adds_both _ _ _ (codes "   holds, but is not after ") (decimal c.in-NotAfter.position) c.put-in-NotAfter.ensures c.put_number.ensures)
