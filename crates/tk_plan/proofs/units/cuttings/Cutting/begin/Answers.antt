use Rattle.std.proofs.Common.{◌+◌, ap, refl}
use Rattle.tk_plan.proofs.Cuts.{begin_adds}
use Rattle.tk_plan.proofs.units.cuttings.Cutting.begin.Goals as goal

pub returns-clause-adds : goal.returns-clause-adds
returns-clause-adds c = λ keys all rest e.
    begin_adds all rest keys _ _ c.args.numbered_node.now _ e refl c.requires c.in_ok-push.ensures.items c.in_ok-push-2.ensures.items refl refl refl
    (ap (λ m. c.args.self.now.event_count + (1 + m)) c.count_publications.ensures)
