use Rattle.std.proofs.Common.{refl}
use Rattle.tk_plan.proofs.Cuts.{end_adds}
use Rattle.tk_plan.proofs.units.cuttings.Cutting.end.Goals as goal

pub returns-clause-adds : goal.returns-clause-adds
returns-clause-adds c = λ keys all rest e. end_adds all rest keys _ _ c.args.numbered_node.now _ e refl c.in_ok-push.ensures.items refl refl refl refl refl
