use Rattle.std.proofs.Common.{◌≡◌, ◌<◌, ◌*◌, [], ◌∷◌, ℕ, eqb, length, take, drop, get_or, count_by, refl, sym, ap, ap₂, ◌∙◌, subst, arith}
use Rattle.std.specs.List.{items_where_true}
use Rattle.std.proofs.lemmas.List.{get_or_default}
use Rattle.tk_lanes.specs.Bits.{first_bits, HoldsFlags}
use Rattle.tk_lanes.proofs.Views.{length-first_bits}
use Rattle.tk_lanes.proofs.Blocks.{block}
use Rattle.tk_lanes.proofs.Tallies.{masked_count, one_taken}
use Rattle.tk_lanes.proofs.flags.Flags.count_in_block.Goals as goal

pub slice_bounds-equal_in_word-count : goal.slice_bounds-equal_in_word-count
slice_bounds-equal_in_word-count c =
    let long = length-first_bits c.self.inside.len c.self.inside.words.items in
    omega (arith, long, ap length c.self.view_is)

pub slice_bounds-equal_in_word-start : goal.slice_bounds-equal_in_word-start
slice_bounds-equal_in_word-start c =
    let long = length-first_bits c.self.inside.len c.self.inside.words.items in
    omega (arith, long, ap length c.self.view_is)

pub slice_bounds-equal_in_word-end : goal.slice_bounds-equal_in_word-end
slice_bounds-equal_in_word-end c =
    let long = length-first_bits c.self.inside.len c.self.inside.words.items in
    omega (arith, long, ap length c.self.view_is)

pub returns-clause-value : goal.returns-clause-value
returns-clause-value c =
    let flags = first_bits c.self.inside.len c.self.inside.words.items in
    let words = c.self.inside.words.items in
    let long = length-first_bits c.self.inside.len c.self.inside.words.items in
    let n : length c.args.column.now ≡ c.self.inside.len = c.requires.size ∙ sym (ap length c.self.view_is) ∙ long in
    let lt : 64 * c.args.block < c.self.inside.len = omega (arith, long, ap length c.self.view_is) in
    let b = block flags words words c.args.column.now c.args.block c.self.inside.len c.min-end.result 1 c.self.invariant.0 long n lt c.min-end.ensures refl refl in
    let within : c.args.block < length words = omega (arith, c.self.invariant.0.size) in
    let word : get_or words c.args.block 0 ≡ c.index.result.now = get_or_default words c.args.block 0 c.index.result.now within ∙ sym c.index.ensures in
    let held = subst (λ ws. HoldsFlags (take 64 (drop (64 * c.args.block) flags)) ws) (one_taken words c.args.block 1 within refl ∙ ap (λ (w : ℕ). w ∷ []) word) b.held in
    masked_count (λ (x : ℕ). eqb x c.args.value) _ _ c.equal_in_word.result c.index.result.now held b.same b.few c.equal_in_word.type_inv c.equal_in_word.ensures
    ∙ ap (count_by (λ (x : ℕ). eqb x c.args.value)) (ap₂ items_where_true (ap (λ fs. take 64 (drop (64 * c.args.block) fs)) c.self.view_is) b.items_are)
