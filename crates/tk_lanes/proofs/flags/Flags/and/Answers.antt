use Rattle.std.proofs.Common.{◌≡◌, ◌&&◌, List, ℕ, length, sym, ap, ap₂, ◌∙◌, subst}
use Rattle.std.specs.Simd.Lanes.{zip2}
use Rattle.std.proofs.lemmas.Simd.{length-zip2}
use Rattle.std.proofs.lemmas.List.{with_items_is}
use Rattle.tk_lanes.specs.Bits.{first_bits, HoldsFlags}
use Rattle.tk_lanes.proofs.Views.{length-first_bits, first_bits_held, held_again, held_both}
use Rattle.tk_lanes.proofs.flags.Flags.and.Goals as goal

pub invariant_of-self : goal.invariant_of-self
invariant_of-self c =
    let a = first_bits c.self.inside.len c.self.inside.words.items in
    let b = first_bits c.other.inside.len c.other.inside.words.items in
    let same : length a ≡ length b = ap length c.self.view_is ∙ c.requires ∙ sym (ap length c.other.view_is) in
    let left = subst (HoldsFlags a) (sym c.deref_mut.ensures.value) c.self.invariant.0 in
    let right = subst (HoldsFlags b) (sym c.deref.ensures.value) c.other.invariant.0 in
    let held = held_both a b c.deref_mut.result.now c.deref.result.now c.and_into.new.mask left right same c.and_into.auto.mask c.and_into.ensures in
    let long : length (zip2 ◌&&◌ a b) ≡ c.self.inside.len = length-zip2 ◌&&◌ a b same ∙ length-first_bits c.self.inside.len c.self.inside.words.items in
    let is = with_items_is c.self.inside.words c.and_into.new.mask (c.and_into.auto.mask ∙ c.deref_mut.ensures.len) in
    (subst (λ (ws : List ℕ). HoldsFlags (first_bits c.self.inside.len ws) ws) (sym is) (held_again (zip2 ◌&&◌ a b) c.and_into.new.mask c.self.inside.len held long), c.self.invariant.1)

pub returns : goal.returns
returns c =
    let a = first_bits c.self.inside.len c.self.inside.words.items in
    let b = first_bits c.other.inside.len c.other.inside.words.items in
    let same : length a ≡ length b = ap length c.self.view_is ∙ c.requires ∙ sym (ap length c.other.view_is) in
    let left = subst (HoldsFlags a) (sym c.deref_mut.ensures.value) c.self.invariant.0 in
    let right = subst (HoldsFlags b) (sym c.deref.ensures.value) c.other.invariant.0 in
    let held = held_both a b c.deref_mut.result.now c.deref.result.now c.and_into.new.mask left right same c.and_into.auto.mask c.and_into.ensures in
    let long : length (zip2 ◌&&◌ a b) ≡ c.self.inside.len = length-zip2 ◌&&◌ a b same ∙ length-first_bits c.self.inside.len c.self.inside.words.items in
    let is = with_items_is c.self.inside.words c.and_into.new.mask (c.and_into.auto.mask ∙ c.deref_mut.ensures.len) in
    ap (first_bits c.self.inside.len) is ∙ first_bits_held (zip2 ◌&&◌ a b) c.and_into.new.mask c.self.inside.len held long ∙ ap₂ (zip2 ◌&&◌) c.self.view_is c.other.view_is
