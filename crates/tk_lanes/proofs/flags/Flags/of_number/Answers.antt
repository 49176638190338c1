use Rattle.std.proofs.Common.{eqb, map, List, ℕ, length, sym, ap, ◌∙◌, subst}
use Rattle.std.proofs.lemmas.List.{with_items_is, length-map}
use Rattle.tk_lanes.specs.Bits.{first_bits, HoldsFlags}
use Rattle.tk_lanes.proofs.Views.{first_bits_held, held_again}
use Rattle.tk_lanes.proofs.flags.Flags.of_number.Goals as goal

pub invariant_of-result : goal.invariant_of-result
invariant_of-result c =
    let p = λ (x : ℕ). eqb x c.args.value in
    let n = length c.args.column.now in
    let is = with_items_is c.in_ok-words.words c.mask_u32.new.out (c.mask_u32.auto.out ∙ c.deref_mut.ensures.len) in
    (subst (λ (ws : List ℕ). HoldsFlags (first_bits n ws) ws) (sym is) (held_again (map p c.args.column.now) c.mask_u32.new.out n c.mask_u32.ensures (length-map c.args.column.now p)), c.requires)

pub returns : goal.returns
returns c =
    let p = λ (x : ℕ). eqb x c.args.value in
    let n = length c.args.column.now in
    let is = with_items_is c.in_ok-words.words c.mask_u32.new.out (c.mask_u32.auto.out ∙ c.deref_mut.ensures.len) in
    ap (first_bits n) is ∙ first_bits_held (map p c.args.column.now) c.mask_u32.new.out n c.mask_u32.ensures (length-map c.args.column.now p)
