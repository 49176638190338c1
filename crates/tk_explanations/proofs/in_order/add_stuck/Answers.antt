use Rattle.std.proofs.Common.{◌++◌, List, ℕ, length, refl, ap, ◌∙◌}
use Rattle.std.proofs.lemmas.Option.{slice_get_read}
use Rattle.tk_streams.proofs.PieceLemmas.{on_ok}
use Rattle.tk_query.specs.Asked.{fits}
use Rattle.tk_explanations.specs.MatchRows.{found_rows}
use Rattle.tk_explanations.specs.Matches.{last_of}
use Rattle.tk_explanations.proofs.RowLemmas.{last_is}
use Rattle.tk_explanations.proofs.Stuck.{before_stuck, last_fits, stuck_added}
use Rattle.tk_explanations.proofs.in_order.add_stuck.Goals as goal

pub positions_in_turn-requires : goal.positions_in_turn-requires
positions_in_turn-requires c =
    before_stuck (fits c.args.events.now) c.args.conditions.now c.args.number c.requires

pub after-requires : goal.after-requires
after-requires c =
    last_fits c.args.events.now _ c.in_ok-found.found.items c.copied-last_found.result
    c.in_ok-found.ensures
    (c.copied-last_found.ensures ∙ c.last.ensures.value ∙ last_is c.as_slice.result.now
    ∙ ap last_of c.as_slice.ensures.value)

pub returns : goal.returns
returns c =
    let cs = c.args.conditions.now in
    let k = c.args.number in
    let x = c.index-conditions-number.result in
    let has = slice_get_read cs (length cs) k x refl c.requires.within
    c.index-conditions-number.is in
    let is = c.copied-last_found.ensures ∙ c.last.ensures.value ∙ last_is c.as_slice.result.now
    ∙ ap last_of c.as_slice.ensures.value in
    let one = c.in_ok-add_found.ensures
    ∙ ap (λ (ps : List ℕ). c.args.rows.now.items ++ found_rows 0 cs ps)
    c.as_slice-2.ensures.value in
    on_ok c.add_nearest.result _ _
    (λ last. stuck_added c.args.events.now cs k x c.in_ok-found.found.items c.nearest-near.result
    c.copied-last_found.result c.last_fit.result c.after.result c.«record».result.now
    c.args.rows.now.items c.add_found.new.rows.items c.add_condition.new.rows.items
    c.add_early.new.rows.items c.add_nearest.new.rows.items has c.in_ok-found.ensures is
    c.after.ensures.value c.last_fit.ensures c.nearest-near.ensures c.«record».ensures one
    c.in_ok-add_condition.ensures c.in_ok-add_early.ensures last)
    c.add_nearest.ensures
