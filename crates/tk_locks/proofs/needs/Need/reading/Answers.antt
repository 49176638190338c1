use Rattle.std.proofs.Common.{ap, ◌∙◌, arith}
use Rattle.tk_locks.specs.Needs.{access_with, reads}
use Rattle.tk_locks.proofs.AddedAccess.{adds_read}
use Rattle.tk_locks.proofs.needs.Need.reading.Goals as goal

pub returns-clause-added : goal.returns-clause-added
returns-clause-added c = λ r lt. c.of.ensures r lt ∙ adds_read c.self.inside.reads c.self.inside.writes c.args.resource (omega arith) r ∙ ap (λ n. access_with n c.args.resource reads r) c.self.view_is
