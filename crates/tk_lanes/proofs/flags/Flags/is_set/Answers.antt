use Rattle.std.proofs.Common.{false, length, get_or, sym, ap, ◌∙◌, arith}
use Rattle.std.proofs.lemmas.List.{get_or_past}
use Rattle.std.proofs.lemmas.Bool.{le-ltb}
use Rattle.tk_lanes.specs.Bits.{first_bits}
use Rattle.tk_lanes.proofs.Views.{length-first_bits, bit_read}
use Rattle.tk_lanes.proofs.flags.Flags.is_set.Goals as goal

pub index-requires : goal.index-requires
index-requires c =
    let long = length-first_bits c.self.inside.len c.self.inside.words.items in
    let size = c.self.invariant.0.size in
    omega (arith, long, size, c.self.inside.words.ok)

pub returns-then-at-self : goal.returns-then-at-self
returns-then-at-self c =
    let long = length-first_bits c.self.inside.len c.self.inside.words.items in
    bit_read (first_bits c.self.inside.len c.self.inside.words.items) c.self.inside.words.items c.args.at c.index.result.now c.self.invariant.0 (omega (arith, long)) c.index.ensures
    ∙ ap (λ fs. get_or fs c.args.at false) c.self.view_is

pub returns-else-at-self : goal.returns-else-at-self
returns-else-at-self c =
    let long = length-first_bits c.self.inside.len c.self.inside.words.items in
    le-ltb c.args.at c.self.inside.len c.if-at-self.false ∙ sym (get_or_past c.args.self.now c.args.at false (omega (arith, long, ap length c.self.view_is)))
