use Rattle.std.proofs.Common.{◌∙◌}
use Rattle.tk_locks.proofs.AddedAccess.{asks_nothing}
use Rattle.tk_locks.proofs.needs.Need.none.Goals as goal

pub returns : goal.returns
returns c = λ r lt. c.of.ensures r lt ∙ asks_nothing r
