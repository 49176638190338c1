use Rattle.std.proofs.Common.{subst}
use Rattle.tk_query.specs.Asked.{fits}
use Rattle.tk_query.specs.Matches.{IsInOrder}
use Rattle.tk_query.specs.declared.answers.InOrder.{InOrder}
use Rattle.tk_explanations.proofs.Stuck.{not_stuck}
use Rattle.tk_explanations.proofs.in_order.positions_in_turn.Goals as goal

pub unreachable-requires : goal.unreachable-requires
unreachable-requires c =
    let asked = c.args.events.now in
    not_stuck (fits asked) c.args.conditions.now c.in_default.field-0 c.requires
    (subst (λ (answer : InOrder). IsInOrder asked c.args.conditions.now answer) c.in_default.is c.in_ok-positions.ensures)
