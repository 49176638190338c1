use Rattle.std.proofs.Common.{min, ap, ◌∙◌}
use Rattle.tk_query.proofs.AskedLemmas.{AreFlags}
use Rattle.tk_query_conditions.specs.CondOf.{cond_of}
use Rattle.tk_query_nearest.specs.Candidates.{listed}
use Rattle.tk_query_nearest.proofs.CandidateLemmas.{nearest_none, nearest_more, nearest_all}
use Rattle.tk_query_nearest.specs.Nearness.{distance_of}
use Rattle.std.specs.Prelude.{slice_get}
use Rattle.tk_query_nearest.proofs.search.nearest.Goals as goal

pub events-init : goal.events-init
events-init c = nearest_none c.args.events.now c.args.first (cond_of c.args.condition.now)

pub events-preserved : goal.events-preserved
events-preserved c =
    let asked = c.args.events.now in
    let are : AreFlags asked c.flags.result.now = record { kept = c.flags.ensures.kept } in
    let condition = cond_of c.args.condition.now in
    let r = c.record-record.result.now in
    let at = c.in-Some.position in
    let far = distance_of r condition (slice_get r.entries at) in
    nearest_more asked c.flags.result.now are c.flags.ensures.size c.args.first condition
    c.events.low (listed c.events.candidates) c.events.invariant at c.distance_at-distance.result
    (listed c.with-candidates.result) r c.in-Some.ensures.value c.record-record.ensures
    (c.distance_at-distance.ensures ∙ ap (min far) c.counted_to.ensures)
    c.with-candidates.ensures

pub returns : goal.returns
returns c =
    let asked = c.args.events.now in
    let are : AreFlags asked c.flags.result.now = record { kept = c.flags.ensures.kept } in
    nearest_all asked c.flags.result.now are c.flags.ensures.size c.args.first
    (cond_of c.args.condition.now) c.events.low (listed c.events.candidates) c.events.invariant
    c.in_default.ensures.value
