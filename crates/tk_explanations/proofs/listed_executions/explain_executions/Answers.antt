use Rattle.std.proofs.Common.{true, ap, refl}
use Rattle.std.specs.List.{flat_map}
use Rattle.tk_record.specs.Recorded.{Recorded}
use Rattle.tk_explanations.specs.Lists.{listed_execution}
use Rattle.tk_explanations.proofs.listed_executions.explain_executions.Goals as goal

pub returns-in-Err-clause-written : goal.returns-in-Err-clause-written
returns-in-Err-clause-written g c =
    let xs = c.in_ok-executions.executions in
    let r = c.record-record.result.now in
    (true, flat_map (listed_execution r) xs, (xs, c.in_ok-executions.ensures, refl, ap (λ (s : Recorded). flat_map (listed_execution s) xs) c.record-record.ensures), c.in-Err.ensures.err)
