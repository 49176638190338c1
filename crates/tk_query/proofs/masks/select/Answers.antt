use Rattle.std.proofs.Common.{map, ap, ◌∙◌}
use Rattle.tk_record.specs.Recorded.{Recorded}
use Rattle.tk_record.specs.Selections.{PositionedEntry, Selected}
use Rattle.std.proofs.Common.{List}
use Rattle.tk_query.specs.Holds.{holds}
use Rattle.tk_query.proofs.AskedLemmas.{AreFlags, intersected_is}
use Rattle.tk_query.proofs.masks.select.Goals as goal

pub returns : goal.returns
returns c =
    let asked = c.args.events.now in
    let flags = c.flags.result.now in
    let are : AreFlags asked flags = record { kept = c.flags.ensures.kept } in
    c.intersect.ensures
    ∙ ap (λ (kept : List PositionedEntry). let s : Selected = record { recorded = asked.recorded; kept = kept } in s)
    (intersected_is asked flags are (holds asked.recorded c.args.condition.now) c.in_ok-flags.flags
    (c.in_ok-flags.ensures ∙ ap (λ (r : Recorded). map (holds r c.args.condition.now) r.entries) c.record-record.ensures))
