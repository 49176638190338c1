use Rattle.std.proofs.Common.{◌∷◌, ◌++◌, [], ◌∙◌, ap}
use Rattle.tk_ids.specs.IdText.{segment_text}
use Rattle.tk_ids.proofs.TextLemmas.{appended, IsAppended}
use Rattle.tk_ids.proofs.ids.UniqueId.text_with.Goals as goal
use Rattle.tk_ids.proofs.ids.UniqueId.text_with.Goals.{In_ok-push_segment}

-- what was written
written : (c : In_ok-push_segment) → IsAppended c.args.self.now c.args.segment.now c.push_segment.new.out.items
written c =
    let copied = c.in_ok-extend_from_slice.ensures.items ∙ ap (λ l. l ++ c.as_bytes-text.result.now) c.in_ok-bytes.ensures.items in
    let slash = c.in_ok-push.ensures.items ∙ ap (λ l. l ++ 47 ∷ []) (copied ∙ c.as_bytes-text.ensures.text) in
    appended c.args.self.now c.args.segment.now c.push_segment.new.out.items c.as_bytes-text.ensures.id c.push_segment.ensures.segment
    (c.in_ok-push_segment.ensures.ok ∙ ap (λ l. l ++ segment_text c.args.segment.now) slash)

pub from_utf8-requires : goal.from_utf8-requires
from_utf8-requires c = (written c).utf8

pub returns : goal.returns
returns c = let w = written (goal.at.returns c).In_ok-push_segment in record { text = c.from_utf8.ensures ∙ w.spells; id = w.id_ok }
