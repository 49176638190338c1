use Rattle.std.proofs.Common.{◌∷◌, ◌∙◌, List, ℕ, length, sym, ap, ap₂, arith}
use Rattle.tk_ids.specs.IdText.{SegmentView}
use Rattle.tk_ids.proofs.SplitLemmas.{first_of, tag_split, plain_split, next_text, next_plain, segments_of_all, texts_of_all}
use Rattle.tk_ids.proofs.segment_lists.Segments.split_first.Goals as goal

pub slice_bounds-from_tag-count : goal.slice_bounds-from_tag-count
slice_bounds-from_tag-count c =
    let first = first_of c.self.inside.text.now c.self.inside.plain.now c.self.inside.len c.self.invariant c.if-self-eq0.false in
    let size = ap length first.2.spells in
    omega (arith, size)

pub slice_bounds-from_tag-start : goal.slice_bounds-from_tag-start
slice_bounds-from_tag-start c =
    let first = first_of c.self.inside.text.now c.self.inside.plain.now c.self.inside.len c.self.invariant c.if-self-eq0.false in
    let size = ap length first.2.spells in
    omega (arith, size)

pub overflow_add-from_value : goal.overflow_add-from_value
overflow_add-from_value c =
    let first = first_of c.self.inside.text.now c.self.inside.plain.now c.self.inside.len c.self.invariant c.if-self-eq0.false in
    let tag = tag_split c.self.inside.text.now c.self.inside.plain.now first.0 first.1 c.part_lengths-tag.result.escaped c.part_lengths-tag.result.plain first.2 c.part_lengths-tag.ensures in
    omega (arith, tag.few, c.self.told.0.0)

pub slice_bounds-from_value-count : goal.slice_bounds-from_value-count
slice_bounds-from_value-count c =
    let first = first_of c.self.inside.text.now c.self.inside.plain.now c.self.inside.len c.self.invariant c.if-self-eq0.false in
    let tag = tag_split c.self.inside.text.now c.self.inside.plain.now first.0 first.1 c.part_lengths-tag.result.escaped c.part_lengths-tag.result.plain first.2 c.part_lengths-tag.ensures in
    tag.within

pub slice_bounds-from_value-start : goal.slice_bounds-from_value-start
slice_bounds-from_value-start c =
    let first = first_of c.self.inside.text.now c.self.inside.plain.now c.self.inside.len c.self.invariant c.if-self-eq0.false in
    let tag = tag_split c.self.inside.text.now c.self.inside.plain.now first.0 first.1 c.part_lengths-tag.result.escaped c.part_lengths-tag.result.plain first.2 c.part_lengths-tag.ensures in
    tag.within

pub overflow_add-value : goal.overflow_add-value
overflow_add-value c =
    let first = first_of c.self.inside.text.now c.self.inside.plain.now c.self.inside.len c.self.invariant c.if-self-eq0.false in
    let tag = tag_split c.self.inside.text.now c.self.inside.plain.now first.0 first.1 c.part_lengths-tag.result.escaped c.part_lengths-tag.result.plain first.2 c.part_lengths-tag.ensures in
    let value = c.part_lengths-value.ensures first.0.value _ tag.from_value in
    omega (arith, tag.value_few, value.escaped, c.self.told.0.1)

pub overflow_add-tag_end : goal.overflow_add-tag_end
overflow_add-tag_end c =
    let first = first_of c.self.inside.text.now c.self.inside.plain.now c.self.inside.len c.self.invariant c.if-self-eq0.false in
    let tag = tag_split c.self.inside.text.now c.self.inside.plain.now first.0 first.1 c.part_lengths-tag.result.escaped c.part_lengths-tag.result.plain first.2 c.part_lengths-tag.ensures in
    let value = c.part_lengths-value.ensures first.0.value _ tag.from_value in
    let plain = plain_split c.self.inside.text.now c.self.inside.plain.now first.0 first.1 c.part_lengths-tag.result.plain c.part_lengths-value.result.plain first.2 tag.lengths.plain value.plain in
    omega (arith, plain.within, c.self.told.1.0)

pub overflow_add-value_start : goal.overflow_add-value_start
overflow_add-value_start c =
    let first = first_of c.self.inside.text.now c.self.inside.plain.now c.self.inside.len c.self.invariant c.if-self-eq0.false in
    let tag = tag_split c.self.inside.text.now c.self.inside.plain.now first.0 first.1 c.part_lengths-tag.result.escaped c.part_lengths-tag.result.plain first.2 c.part_lengths-tag.ensures in
    let value = c.part_lengths-value.ensures first.0.value _ tag.from_value in
    let plain = plain_split c.self.inside.text.now c.self.inside.plain.now first.0 first.1 c.part_lengths-tag.result.plain c.part_lengths-value.result.plain first.2 tag.lengths.plain value.plain in
    omega (arith, plain.within, c.self.told.1.0)

pub overflow_add-value_end : goal.overflow_add-value_end
overflow_add-value_end c =
    let first = first_of c.self.inside.text.now c.self.inside.plain.now c.self.inside.len c.self.invariant c.if-self-eq0.false in
    let tag = tag_split c.self.inside.text.now c.self.inside.plain.now first.0 first.1 c.part_lengths-tag.result.escaped c.part_lengths-tag.result.plain first.2 c.part_lengths-tag.ensures in
    let value = c.part_lengths-value.ensures first.0.value _ tag.from_value in
    let plain = plain_split c.self.inside.text.now c.self.inside.plain.now first.0 first.1 c.part_lengths-tag.result.plain c.part_lengths-value.result.plain first.2 tag.lengths.plain value.plain in
    omega (arith, plain.within, c.self.told.1.0)

pub overflow_add-value_end-2 : goal.overflow_add-value_end-2
overflow_add-value_end-2 c =
    let first = first_of c.self.inside.text.now c.self.inside.plain.now c.self.inside.len c.self.invariant c.if-self-eq0.false in
    let tag = tag_split c.self.inside.text.now c.self.inside.plain.now first.0 first.1 c.part_lengths-tag.result.escaped c.part_lengths-tag.result.plain first.2 c.part_lengths-tag.ensures in
    let value = c.part_lengths-value.ensures first.0.value _ tag.from_value in
    let plain = plain_split c.self.inside.text.now c.self.inside.plain.now first.0 first.1 c.part_lengths-tag.result.plain c.part_lengths-value.result.plain first.2 tag.lengths.plain value.plain in
    omega (arith, plain.within, c.self.told.1.1)

pub range-requires-clause-start_boundary : goal.range-requires-clause-start_boundary
range-requires-clause-start_boundary c =
    let first = first_of c.self.inside.text.now c.self.inside.plain.now c.self.inside.len c.self.invariant c.if-self-eq0.false in
    let tag = tag_split c.self.inside.text.now c.self.inside.plain.now first.0 first.1 c.part_lengths-tag.result.escaped c.part_lengths-tag.result.plain first.2 c.part_lengths-tag.ensures in
    let value = c.part_lengths-value.ensures first.0.value _ tag.from_value in
    let plain = plain_split c.self.inside.text.now c.self.inside.plain.now first.0 first.1 c.part_lengths-tag.result.plain c.part_lengths-value.result.plain first.2 tag.lengths.plain value.plain in
    λ _. plain.tag_start

pub range-requires-clause-end_boundary : goal.range-requires-clause-end_boundary
range-requires-clause-end_boundary c =
    let first = first_of c.self.inside.text.now c.self.inside.plain.now c.self.inside.len c.self.invariant c.if-self-eq0.false in
    let tag = tag_split c.self.inside.text.now c.self.inside.plain.now first.0 first.1 c.part_lengths-tag.result.escaped c.part_lengths-tag.result.plain first.2 c.part_lengths-tag.ensures in
    let value = c.part_lengths-value.ensures first.0.value _ tag.from_value in
    let plain = plain_split c.self.inside.text.now c.self.inside.plain.now first.0 first.1 c.part_lengths-tag.result.plain c.part_lengths-value.result.plain first.2 tag.lengths.plain value.plain in
    plain.tag_end

pub range-requires-2-clause-start_boundary : goal.range-requires-2-clause-start_boundary
range-requires-2-clause-start_boundary c =
    let first = first_of c.self.inside.text.now c.self.inside.plain.now c.self.inside.len c.self.invariant c.if-self-eq0.false in
    let tag = tag_split c.self.inside.text.now c.self.inside.plain.now first.0 first.1 c.part_lengths-tag.result.escaped c.part_lengths-tag.result.plain first.2 c.part_lengths-tag.ensures in
    let value = c.part_lengths-value.ensures first.0.value _ tag.from_value in
    let plain = plain_split c.self.inside.text.now c.self.inside.plain.now first.0 first.1 c.part_lengths-tag.result.plain c.part_lengths-value.result.plain first.2 tag.lengths.plain value.plain in
    λ _. plain.value_start

pub range-requires-2-clause-end_boundary : goal.range-requires-2-clause-end_boundary
range-requires-2-clause-end_boundary c =
    let first = first_of c.self.inside.text.now c.self.inside.plain.now c.self.inside.len c.self.invariant c.if-self-eq0.false in
    let tag = tag_split c.self.inside.text.now c.self.inside.plain.now first.0 first.1 c.part_lengths-tag.result.escaped c.part_lengths-tag.result.plain first.2 c.part_lengths-tag.ensures in
    let value = c.part_lengths-value.ensures first.0.value _ tag.from_value in
    let plain = plain_split c.self.inside.text.now c.self.inside.plain.now first.0 first.1 c.part_lengths-tag.result.plain c.part_lengths-value.result.plain first.2 tag.lengths.plain value.plain in
    plain.value_end

pub range_from-requires : goal.range_from-requires
range_from-requires c =
    let first = first_of c.self.inside.text.now c.self.inside.plain.now c.self.inside.len c.self.invariant c.if-self-eq0.false in
    let tag = tag_split c.self.inside.text.now c.self.inside.plain.now first.0 first.1 c.part_lengths-tag.result.escaped c.part_lengths-tag.result.plain first.2 c.part_lengths-tag.ensures in
    let value = c.part_lengths-value.ensures first.0.value _ tag.from_value in
    let next = next_plain c.self.inside.text.now c.self.inside.plain.now first.0 first.1 c.part_lengths-tag.result.plain c.part_lengths-value.result.plain c.min-next_plain.result first.2 tag.lengths.plain value.plain c.min-next_plain.ensures in
    λ _. next.boundary

pub invariant_of-rest : goal.invariant_of-rest
invariant_of-rest c =
    let first = first_of c.self.inside.text.now c.self.inside.plain.now c.self.inside.len c.self.invariant c.if-self-eq0.false in
    let tag = tag_split c.self.inside.text.now c.self.inside.plain.now first.0 first.1 c.part_lengths-tag.result.escaped c.part_lengths-tag.result.plain first.2 c.part_lengths-tag.ensures in
    let value = c.part_lengths-value.ensures first.0.value _ tag.from_value in
    let next = next_plain c.self.inside.text.now c.self.inside.plain.now first.0 first.1 c.part_lengths-tag.result.plain c.part_lengths-value.result.plain c.min-next_plain.result first.2 tag.lengths.plain value.plain c.min-next_plain.ensures in
    let text = next_text _ first.0 first.1 c.part_lengths-value.result.escaped c.min-next.result tag.from_value value.escaped c.min-next.ensures in
    let counted = c.self.invariant.counted ∙ ap length first.2.whole in
    texts_of_all _ _ _ first.1 first.2.others text (c.range_from.ensures.value ∙ next.text) (omega (arith, counted))

pub returns : goal.returns
returns c =
    let first = first_of c.self.inside.text.now c.self.inside.plain.now c.self.inside.len c.self.invariant c.if-self-eq0.false in
    let tag = tag_split c.self.inside.text.now c.self.inside.plain.now first.0 first.1 c.part_lengths-tag.result.escaped c.part_lengths-tag.result.plain first.2 c.part_lengths-tag.ensures in
    let value = c.part_lengths-value.ensures first.0.value _ tag.from_value in
    let plain = plain_split c.self.inside.text.now c.self.inside.plain.now first.0 first.1 c.part_lengths-tag.result.plain c.part_lengths-value.result.plain first.2 tag.lengths.plain value.plain in
    let text = next_text _ first.0 first.1 c.part_lengths-value.result.escaped c.min-next.result tag.from_value value.escaped c.min-next.ensures in
    sym c.self.view_is ∙ first.2.whole
    ∙ ap₂ (λ (s : SegmentView) (l : List SegmentView). s ∷ l)
    (ap₂ (λ (t v : List ℕ). record { tag = t; value = v }) (sym (c.range.ensures.value ∙ plain.tag_is)) (sym (c.range-2.ensures.value ∙ plain.value_is)))
    (sym (segments_of_all _ first.1 first.2.others text))
