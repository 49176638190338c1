use Rattle.std.proofs.Common.{rules, ◌≡◌, true, List, ℕ, length, replicate, sym, ap, ◌∙◌, subst}
use Rattle.std.proofs.lemmas.List.{with_items_is, length-replicate}
use Rattle.tk_lanes.specs.Bits.{first_bits, words_for, HoldsFlags}
use Rattle.tk_lanes.proofs.Views.{first_bits_held, held_again}
use Rattle.tk_lanes.proofs.Blocks.{turned_all}
use Rattle.tk_lanes.proofs.flags.Flags.all.Goals as goal

pub invariant_of-result : goal.invariant_of-result
invariant_of-result c =
    let zeros = c.deref_mut.ensures.value ∙ c.in_ok-words.ensures.items_if_clones_equal (λ y h. h) in
    let size : length c.deref_mut.result.now ≡ words_for c.args.len = search rules in
    let held = turned_all c.args.len c.div_ceil.result c.deref_mut.result.now c.not_into.new.mask zeros (c.not_into.auto.mask ∙ size) c.not_into.ensures.below c.not_into.ensures.above in
    let is = with_items_is c.in_ok-words.words c.not_into.new.mask (c.not_into.auto.mask ∙ c.deref_mut.ensures.len) in
    (subst (λ (ws : List ℕ). HoldsFlags (first_bits c.args.len ws) ws) (sym is) (held_again (replicate c.args.len true) c.not_into.new.mask c.args.len held (length-replicate c.args.len true)), c.requires)

pub returns : goal.returns
returns c =
    let zeros = c.deref_mut.ensures.value ∙ c.in_ok-words.ensures.items_if_clones_equal (λ y h. h) in
    let size : length c.deref_mut.result.now ≡ words_for c.args.len = search rules in
    let held = turned_all c.args.len c.div_ceil.result c.deref_mut.result.now c.not_into.new.mask zeros (c.not_into.auto.mask ∙ size) c.not_into.ensures.below c.not_into.ensures.above in
    let is = with_items_is c.in_ok-words.words c.not_into.new.mask (c.not_into.auto.mask ∙ c.deref_mut.ensures.len) in
    ap (first_bits c.args.len) is ∙ first_bits_held (replicate c.args.len true) c.not_into.new.mask c.args.len held (length-replicate c.args.len true)
