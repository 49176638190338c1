use Rattle.std.proofs.Common.{◌≤◌, ◌^◌, length, sym, ap, subst, arith}
use Rattle.tk_lanes.specs.Bits.{HoldsFlags}
use Rattle.tk_lanes.proofs.Views.{short, length-first_bits, first_is}
use Rattle.tk_lanes.proofs.Positions.{bounded}
use Rattle.tk_lanes.proofs.flags.Flags.first_from.Goals as goal

pub first_from-requires : goal.first_from-requires
first_from-requires c = short c.self.inside.len c.self.inside.words.items c.deref.result.now c.self.invariant.0 c.self.invariant.1 c.deref.ensures.value

pub returns-clause-bound : goal.returns-clause-bound
returns-clause-bound c =
    let few : length c.args.self.now ≤ 2 ^ 32 = omega (arith, ap length c.self.view_is, length-first_bits c.self.inside.len c.self.inside.words.items, c.self.invariant.1) in
    let is = first_is c.args.self.now c.args.from c.deref.result.now c.first_from.result (subst (λ ws. HoldsFlags c.args.self.now ws) (sym c.deref.ensures.value) (subst (λ fs. HoldsFlags fs c.self.inside.words.items) c.self.view_is c.self.invariant.0)) c.first_from.ensures in
    bounded c.args.self.now c.args.from c.first_from.result few is
