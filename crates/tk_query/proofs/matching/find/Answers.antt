use Rattle.tk_query.proofs.AskedLemmas.{AreFlags}
use Rattle.tk_query.proofs.MatchLemmas.{all_left}
use Rattle.tk_query.proofs.matching.find.Goals as goal

pub next_fit-requires : goal.next_fit-requires
next_fit-requires c =
    let are : AreFlags c.args.events.now c.flags.result.now = record { kept = c.flags.ensures.kept } in
    all_left c.args.events.now c.flags.result.now are c.args.condition.now
