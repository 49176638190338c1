use Rattle.std.proofs.Common.{◌∙◌}
use Rattle.tk_query.proofs.AskedLemmas.{fits_there, none_more, next_is, none_left}
use Rattle.tk_query.proofs.matching.next_fit.Goals as goal

pub returns-then-holds_at-clause-fit : goal.returns-then-holds_at-clause-fit
returns-then-holds_at-clause-fit c =
    let asked = c.args.events.now in
    let position = c.in-Some.position in
    let set = c.in-Some.ensures.value in
    let here = fits_there asked c.«record».result.now c.«record».ensures c.args.condition.now position c.holds_at.result (c.requires.there position set.set) c.holds_at.ensures in
    next_is asked c.args.condition.now c.args.candidates.now c.requires.others c.args.from c.candidates.low position c.candidates.invariant set (here ∙ c.if-holds_at.true)

pub candidates-preserved : goal.candidates-preserved
candidates-preserved c =
    let asked = c.args.events.now in
    let position = c.in-Some.position in
    let set = c.in-Some.ensures.value in
    let here = fits_there asked c.«record».result.now c.«record».ensures c.args.condition.now position c.holds_at.result (c.requires.there position set.set) c.holds_at.ensures in
    none_more asked c.args.condition.now c.args.candidates.now c.requires.others c.args.from c.candidates.low position c.candidates.invariant set (here ∙ c.if-holds_at.false)

pub returns-clause-fit : goal.returns-clause-fit
returns-clause-fit c = none_left c.args.events.now c.args.condition.now c.args.candidates.now c.requires.others c.args.from c.candidates.low c.candidates.invariant c.in_default.ensures.value
