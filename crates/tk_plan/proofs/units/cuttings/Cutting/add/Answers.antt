use Rattle.std.proofs.Common.{◌+◌, ap, refl}
use Rattle.tk_plan.proofs.Cuts.{add_adds}
use Rattle.tk_plan.proofs.units.cuttings.Cutting.add.Goals as goal

pub returns-clause-adds : goal.returns-clause-adds
returns-clause-adds c = λ all rest e.
    add_adds all _ _ _ c.args.numbered_node.now c.args.below.now rest _ e c.requires.span c.requires.below c.need_of.ensures refl c.requires.limit refl refl refl
    c.in_ok-push.ensures.items c.in_ok-push-2.ensures.items (ap (λ m. c.args.self.now.event_count + m) c.count_tree.ensures)
