use Rattle.std.proofs.Common.{◌≡◌, ◌≤◌, ◌∷◌, [], ◌++◌, List, ℕ, length, refl, ap, ◌∙◌, arith}
use Rattle.tk_ids.specs.declared.ids.TheConstants.{MAX_BYTES}
use Rattle.tk_ids.specs.IdText.{id_text, segment_text}
use Rattle.tk_ids.proofs.IdSegmentLemmas.{text_of_id, segments_of-id_text}
use Rattle.tk_ids.proofs.TextLemmas.{utf8_segment_text}
use Rattle.tk_ids.proofs.ids.UniqueId.of.Goals as goal

pub from_utf8-requires : goal.from_utf8-requires
from_utf8-requires c = let a = c.in_ok-push_segment.ensures.ok in let b = c.new-bytes.ensures.items in rw (a, b) (utf8_segment_text c.args.segment.now c.push_segment.ensures.segment)

pub returns-then-len-gt-MAX_BYTES : goal.returns-then-len-gt-MAX_BYTES
returns-then-len-gt-MAX_BYTES c = λ fits.
    let segment = c.args.segment.now in
    let bytes : c.push_segment.new.out.items ≡ id_text (segment ∷ []) = c.in_ok-push_segment.ensures.ok ∙ ap (λ (l : List ℕ). l ++ segment_text segment) c.new-bytes.ensures.items in
    omega (arith, fits.0, ap length bytes)

pub with_text-requires : goal.with_text-requires
with_text-requires c =
    let segment = c.args.segment.now in
    let bytes : c.push_segment.new.out.items ≡ id_text (segment ∷ []) = c.in_ok-push_segment.ensures.ok ∙ ap (λ (l : List ℕ). l ++ segment_text segment) c.new-bytes.ensures.items in
    let within : length (id_text (segment ∷ [])) ≤ MAX_BYTES = omega (arith, ap length bytes) in
    text_of_id c.from_utf8.result 1 (segment ∷ []) (omega arith, (c.push_segment.ensures.segment, tt)) (c.from_utf8.ensures ∙ bytes) (within, omega arith) refl

pub returns : goal.returns
returns c =
    let segment = c.args.segment.now in
    let bytes : c.push_segment.new.out.items ≡ id_text (segment ∷ []) = c.in_ok-push_segment.ensures.ok ∙ ap (λ (l : List ℕ). l ++ segment_text segment) c.new-bytes.ensures.items in
    let within : length (id_text (segment ∷ [])) ≤ MAX_BYTES = omega (arith, ap length bytes) in
    (c.in_ok-with_text.ensures ∙ segments_of-id_text c.from_utf8.result (segment ∷ []) (omega arith, (c.push_segment.ensures.segment, tt)) (c.from_utf8.ensures ∙ bytes), (within, omega arith))
