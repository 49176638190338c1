use Rattle.std.proofs.Common.{rules, ◌≡◌, ◌++◌, ◌∷◌, [], ◌∙◌, ℕ, List, ap}
use Rattle.tk_streams.proofs.PieceLemmas.{on_ok}
use Rattle.tk_record.specs.Selections.{filtered_by, positions_of, selects}
use Rattle.tk_explanations.specs.Statistics.{counted_rows, mismatch_rows, mismatch_text}
use Rattle.tk_explanations.specs.declared.rows.Row.TheVariants.{Line}
use Rattle.tk_explanations.proofs.RowLemmas.{row_and_more}
use Rattle.tk_explanations.proofs.statistics.add_mismatch_rows.Goals as goal

pub returns : goal.returns
unfolding mismatch_rows
returns c =
    let asked = c.args.events.now in
    let m = c.args.mismatch.now in
    let before = c.push.new.self.items in
    let line : before ≡ c.args.rows.now.items ++ Line (mismatch_text m) ∷ [] = search rules in
    let counted : c.as_slice.result.now
    ≡ positions_of (filtered_by (selects m.selection asked.recorded) asked) =
    c.as_slice.ensures.value ∙ c.in_ok-counted.ensures.value
    ∙ ap positions_of c.in_ok-pick.ensures in
    on_ok c.add_counted.result _ _
    (λ more. row_and_more _ _ _ _ _ line
    (more ∙ ap (λ (ps : List ℕ). before ++ counted_rows ps) counted))
    c.add_counted.ensures
