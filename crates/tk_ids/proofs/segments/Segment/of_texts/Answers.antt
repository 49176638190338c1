use Rattle.std.proofs.Common.{List, ℕ, drop, length, ap, ◌∙◌, sym, subst}
use Rattle.tk_ids.specs.IdText.{SegmentView, IsNonEmptyText}
use Rattle.tk_ids.proofs.SegmentLemmas.{tag_of_joined, value_of_joined}
use Rattle.tk_ids.proofs.segments.Segment.of_texts.Goals as goal

pub invariant_of-result : goal.invariant_of-result
invariant_of-result c =
    let text = c.in_ok-join.field-0 in
    let joined = c.in_ok-join.ensures in (
      subst IsNonEmptyText (sym (tag_of_joined text c.args.tag.now c.args.value.now joined)) c.requires.tag,
      subst IsNonEmptyText (sym (value_of_joined text c.args.tag.now c.args.value.now joined)) c.requires.value,
    )

pub returns : goal.returns
returns c =
    let text = c.in_ok-join.field-0 in
    let joined = c.in_ok-join.ensures in
    let segment : List ℕ → List ℕ → SegmentView = λ tag value. record { tag = tag; value = value } in
    ap (λ tag. segment tag (drop (length c.args.tag.now) text)) (tag_of_joined text c.args.tag.now c.args.value.now joined)
    ∙ ap (segment c.args.tag.now) (value_of_joined text c.args.tag.now c.args.value.now joined)
