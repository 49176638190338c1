use Rattle.std.proofs.Common.{length, sym, ap, ◌∙◌}
use Rattle.tk_lanes.proofs.Views.{length-first_bits}
use Rattle.tk_lanes.proofs.flags.Flags.len.Goals as goal

pub returns-clause-value : goal.returns-clause-value
returns-clause-value c = sym (length-first_bits c.self.inside.len c.self.inside.words.items) ∙ ap length c.self.view_is
