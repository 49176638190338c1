use Rattle.std.proofs.Common.{◌∙◌}
use Rattle.tk_query.proofs.AskedLemmas.{AreFlags, fits_clear, fits_set, next_is, none_more, none_left}
use Rattle.tk_query.proofs.matching.try_first.Goals as goal

pub returns-in_default : goal.returns-in_default
returns-in_default c =
    let asked = c.args.events.now in
    let flags = c.flags.result.now in
    let are : AreFlags asked flags = record { kept = c.flags.ensures.kept } in
    none_left asked c.args.condition.now flags (fits_clear asked flags are c.args.condition.now) 0 c.loop.low c.loop.invariant c.in_default.ensures.value

pub returns-then-holds_at : goal.returns-then-holds_at
returns-then-holds_at c =
    let asked = c.args.events.now in
    let flags = c.flags.result.now in
    let are : AreFlags asked flags = record { kept = c.flags.ensures.kept } in
    let set = c.in-Some.ensures.value in
    let here = fits_set asked flags are c.«record».result.now c.«record».ensures c.args.condition.now c.in-Some.position c.holds_at.result set.set c.holds_at.ensures in
    next_is asked c.args.condition.now flags (fits_clear asked flags are c.args.condition.now) 0 c.loop.low c.in-Some.position c.loop.invariant set (here ∙ c.if-holds_at.true)

pub loop-preserved : goal.loop-preserved
loop-preserved c =
    let asked = c.args.events.now in
    let flags = c.flags.result.now in
    let are : AreFlags asked flags = record { kept = c.flags.ensures.kept } in
    let set = c.in-Some.ensures.value in
    let here = fits_set asked flags are c.«record».result.now c.«record».ensures c.args.condition.now c.in-Some.position c.holds_at.result set.set c.holds_at.ensures in
    none_more asked c.args.condition.now flags (fits_clear asked flags are c.args.condition.now) 0 c.loop.low c.in-Some.position c.loop.invariant set (here ∙ c.if-holds_at.false)
