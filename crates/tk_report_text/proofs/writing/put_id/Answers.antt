use Rattle.std.proofs.Common.{◌∷◌, [], append_assoc}
use Rattle.tk_streams.proofs.PieceLemmas.{adds_as, adds_both}
use Rattle.tk_events.specs.Fields.{field_text}
use Rattle.tk_report_text.proofs.writing.put_id.Goals as goal

pub returns : goal.returns
returns g c =
    let lines = adds_as _ _ _ _ c.as_bytes.ensures c.put-2.ensures in
    adds_as _ _ _ _ (append_assoc (field_text c.args.id.now) (10 ∷ []) c.args.lines.now) (adds_both _ _ _ _ _ (adds_both _ _ _ _ _ c.put_text.ensures c.put.ensures) lines)
