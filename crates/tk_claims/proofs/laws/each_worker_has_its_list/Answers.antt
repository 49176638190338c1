use Rattle.tk_claims.proofs.Workers.{each_has_its_list}
use Rattle.tk_claims.proofs.laws.each_worker_has_its_list.Goals as goal

pub returns : goal.returns
returns c = each_has_its_list
