use Rattle.std.proofs.Common.{not, map, List, ℕ, length, sym, ap, ◌∙◌, subst}
use Rattle.std.proofs.lemmas.List.{with_items_is, length-map}
use Rattle.tk_lanes.specs.Bits.{first_bits, words_for, HoldsFlags}
use Rattle.tk_lanes.proofs.Views.{length-first_bits, first_bits_held, held_again, held_turned}
use Rattle.tk_lanes.proofs.flags.Flags.invert.Goals as goal

pub not_into-requires : goal.not_into-requires
not_into-requires c =
    ap length c.deref_mut.ensures.value ∙ c.self.invariant.0.size ∙ ap words_for (length-first_bits c.self.inside.len c.self.inside.words.items)

pub invariant_of-self : goal.invariant_of-self
invariant_of-self c =
    let a = first_bits c.self.inside.len c.self.inside.words.items in
    let n = length-first_bits c.self.inside.len c.self.inside.words.items in
    let old = subst (HoldsFlags a) (sym c.deref_mut.ensures.value) c.self.invariant.0 in
    let held = held_turned a c.self.inside.len c.deref_mut.result.now c.not_into.new.mask old n c.not_into.auto.mask c.not_into.ensures.below c.not_into.ensures.above in
    let is = with_items_is c.self.inside.words c.not_into.new.mask (c.not_into.auto.mask ∙ c.deref_mut.ensures.len) in
    (subst (λ (ws : List ℕ). HoldsFlags (first_bits c.self.inside.len ws) ws) (sym is) (held_again (map not a) c.not_into.new.mask c.self.inside.len held (length-map a not ∙ n)), c.self.invariant.1)

pub returns : goal.returns
returns c =
    let a = first_bits c.self.inside.len c.self.inside.words.items in
    let n = length-first_bits c.self.inside.len c.self.inside.words.items in
    let old = subst (HoldsFlags a) (sym c.deref_mut.ensures.value) c.self.invariant.0 in
    let held = held_turned a c.self.inside.len c.deref_mut.result.now c.not_into.new.mask old n c.not_into.auto.mask c.not_into.ensures.below c.not_into.ensures.above in
    let is = with_items_is c.self.inside.words c.not_into.new.mask (c.not_into.auto.mask ∙ c.deref_mut.ensures.len) in
    ap (first_bits c.self.inside.len) is ∙ first_bits_held (map not a) c.not_into.new.mask c.self.inside.len held (length-map a not ∙ n) ∙ ap (map not) c.self.view_is
