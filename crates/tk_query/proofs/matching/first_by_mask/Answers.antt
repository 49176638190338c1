use Rattle.tk_query.proofs.AskedLemmas.{AreFlags}
use Rattle.tk_query.proofs.MatchLemmas.{mask_tells}
use Rattle.tk_query.proofs.matching.first_by_mask.Goals as goal

pub returns : goal.returns
returns c =
    let asked = c.args.events.now in
    let flags = c.flags-2.result.now in
    let are : AreFlags asked flags = record { kept = c.flags-2.ensures.kept } in
    mask_tells asked flags are c.record-record.result.now c.record-record.ensures c.args.condition.now c.in_ok-flags.flags c.and.new.self c.in_ok-flags.ensures c.and.ensures
    c.first_from.result c.first_from.ensures.value
