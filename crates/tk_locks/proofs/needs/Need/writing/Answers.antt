use Rattle.std.proofs.Common.{ap, ◌∙◌, arith}
use Rattle.tk_locks.specs.Needs.{access_with, writes}
use Rattle.tk_locks.proofs.AddedAccess.{adds_write}
use Rattle.tk_locks.proofs.needs.Need.writing.Goals as goal

pub returns-clause-added : goal.returns-clause-added
returns-clause-added c = λ r lt. c.of.ensures r lt ∙ adds_write c.self.inside.reads c.self.inside.writes c.args.resource (omega arith) r ∙ ap (λ n. access_with n c.args.resource writes r) c.self.view_is
