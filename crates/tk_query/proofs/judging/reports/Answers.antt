use Rattle.std.proofs.Common.{◌≡◌, true}
use Rattle.tk_query.specs.Holds.{all_within}
use Rattle.tk_query.proofs.judging.reports.Goals as goal

pub returns-then-all_within : goal.returns-then-all_within
returns-then-all_within c =
    let named_are_given : all_within c.args.named.now c.in-Report.given ≡ true = cc in
    rw (c.in-Report.is, named_are_given) cc
