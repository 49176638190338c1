use Rattle.std.proofs.Common.{◌∙◌}
use Rattle.std.proofs.lemmas.Result.{err_from_is_err_and}
use Rattle.tk_plan.specs.Numbers.{numbered}
use Rattle.tk_plan_reading.proofs.plan_reading.read_plan.Goals as goal

pub returns-in_err-read : goal.returns-in_err-read
returns-in_err-read c =
    let p = err_from_is_err_and c.from_residual.result c.from_residual.ensures.1 in
    rw (p.1, p.2) c.in_err-read.ensures

pub plan_from-requires : goal.plan_from-requires
plan_from-requires c =
    let r = c.in_ok-read.ensures.2 in
    record { follow = r.follow; noted = r.noted; planned = r.planned }

pub returns : goal.returns
returns c =
    let read = c.in_ok-read.ensures in
    (read.0, read.1, c.in_ok-plan_from.ensures ∙ (λ j. record { nodes = numbered (read.2.nodes j); table = read.2.descriptors j }))
