use Rattle.std.proofs.lemmas.Result.{IfOk-weaker}
use Rattle.testkit_headline.proofs.Records.{yes_exactly}
use Rattle.testkit_headline.proofs.laws.match_events.Goals as goal

pub returns : goal.returns
returns c =
    IfOk-weaker c.match_in_order.result _ _
    (λ answer is. yes_exactly c.args.events.now c.args.conditions.now answer is)
    c.match_in_order.ensures
