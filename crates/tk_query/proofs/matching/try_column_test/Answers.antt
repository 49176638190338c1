use Rattle.tk_query.proofs.AskedLemmas.{AreFlags}
use Rattle.tk_query.proofs.MatchLemmas.{are_left}
use Rattle.tk_query.proofs.matching.try_column_test.Goals as goal

pub next_fit-requires : goal.next_fit-requires
next_fit-requires c =
    let asked = c.args.events.now in
    let flags = c.flags-3.result.now in
    let are : AreFlags asked flags = record { kept = c.flags-3.ensures.kept } in
    let r = c.record-record.result.now in
    are_left asked flags are r c.record-record.ensures c.args.condition.now c.in-Some.column_test (c.in-Some.ensures r) c.in_ok-candidates.candidates c.and.new.self c.in_ok-candidates.ensures c.and.ensures

pub returns : goal.returns
returns c = c.next_fit.ensures.fit
