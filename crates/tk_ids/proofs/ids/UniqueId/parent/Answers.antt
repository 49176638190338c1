use Rattle.std.proofs.Common.{◌≡◌, ◌-◌, ◌∙◌, sym, ap, length, arith}
use Rattle.std.proofs.lemmas.List.{length-take-le}
use Rattle.tk_ids.specs.IdText.{parent_of}
use Rattle.tk_ids.proofs.IdSegmentLemmas.{text_of_id, segments_of-id_text}
use Rattle.tk_ids.proofs.ids.UniqueId.parent.Goals as goal

pub with_text-requires : goal.with_text-requires
with_text-requires c =
    let id = c.args.self.now in
    let above = rw c.in-Some.is at c.parent_text.ensures in
    let more = above.0 in
    let count : length (parent_of id) ≡ length id - 1 = length-take-le (length id - 1) id (omega arith) in
    text_of_id c.in_ok-text.text (c.segment_count.result - 1) (parent_of id) above.1 (c.in_ok-text.ensures ∙ above.3) above.2 (ap (λ n. n - 1) c.segment_count.ensures ∙ sym count)

pub returns : goal.returns
returns c =
    let above = rw c.in-Some.is at c.parent_text.ensures in
    (above.0, c.in_ok-with_text.ensures ∙ segments_of-id_text c.in_ok-text.text (parent_of c.args.self.now) above.1 (c.in_ok-text.ensures ∙ above.3))
