use Rattle.std.proofs.Common.{count_by, ap, ◌∙◌}
use Rattle.tk_lanes.specs.Bits.{first_bits, set_bits}
use Rattle.tk_lanes.proofs.Views.{short, set_bits_held}
use Rattle.tk_lanes.proofs.flags.Flags.count.Goals as goal

pub ones-requires : goal.ones-requires
ones-requires c = short c.self.inside.len c.self.inside.words.items c.deref.result.now c.self.invariant.0 c.self.invariant.1 c.deref.ensures.value

pub returns : goal.returns
returns c =
    c.ones.ensures ∙ ap set_bits c.deref.ensures.value ∙ set_bits_held (first_bits c.self.inside.len c.self.inside.words.items) c.self.inside.words.items c.self.invariant.0
    ∙ ap (count_by (λ b. b)) c.self.view_is
