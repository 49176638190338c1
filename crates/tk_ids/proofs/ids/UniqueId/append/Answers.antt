use Rattle.std.proofs.Common.{◌≡◌, ◌+◌, ◌≤◌, ◌∷◌, [], ◌++◌, length, sym, ap, ◌∙◌, arith}
use Rattle.std.proofs.lemmas.List.{length-append}
use Rattle.tk_ids.specs.declared.ids.TheConstants.{MAX_SEGMENTS}
use Rattle.tk_ids.proofs.IdSegmentLemmas.{text_of_id, segments_of-id_text}
use Rattle.tk_ids.proofs.ids.UniqueId.append.Goals as goal

pub with_text-requires : goal.with_text-requires
with_text-requires c =
    let id = c.args.self.now ++ c.args.segment.now ∷ [] in
    let size : length id ≡ length c.args.self.now + 1 = length-append c.args.self.now (c.args.segment.now ∷ []) in
    let few : length id ≤ MAX_SEGMENTS = omega (arith, c.segment_count-segment_count.ensures) in
    text_of_id c.in_ok-text.text (c.segment_count-segment_count.result + 1) id c.in_ok-text.ensures.id c.in_ok-text.ensures.text (omega (arith, ap length c.in_ok-text.ensures.text), few) (ap (λ n. n + 1) c.segment_count-segment_count.ensures ∙ sym size)

pub returns : goal.returns
returns c =
    let id = c.args.self.now ++ c.args.segment.now ∷ [] in
    let size : length id ≡ length c.args.self.now + 1 = length-append c.args.self.now (c.args.segment.now ∷ []) in
    let few : length id ≤ MAX_SEGMENTS = omega (arith, c.segment_count-segment_count.ensures) in
    (c.in_ok-with_text.ensures ∙ segments_of-id_text c.in_ok-text.text id c.in_ok-text.ensures.id c.in_ok-text.ensures.text, (omega (arith, ap length c.in_ok-text.ensures.text), few))
