use Rattle.std.proofs.Common.{length, refl}
use Rattle.std.proofs.lemmas.Option.{slice_get_read, slice_get_within}
use Rattle.tk_streams.proofs.PieceLemmas.{on_ok}
use Rattle.tk_explanations.proofs.FirstFits.{missing_added}
use Rattle.tk_explanations.proofs.loosely.add_missing.Goals as goal

pub returns : goal.returns
returns c =
    let cs = c.args.conditions.now in
    let k = c.args.number in
    let x = c.index-conditions-number.result in
    let has = slice_get_read cs (length cs) k x refl
    (slice_get_within cs k _ c.requires.condition_is) c.index-conditions-number.is in
    on_ok c.add_nearest.result _ _
    (λ last. missing_added c.args.events.now cs k x c.nearest-near.result c.«record».result.now
    c.args.rows.now.items c.add_condition.new.rows.items c.add_nearest.new.rows.items has
    c.nearest-near.ensures c.«record».ensures c.in_ok-add_condition.ensures last)
    c.add_nearest.ensures
