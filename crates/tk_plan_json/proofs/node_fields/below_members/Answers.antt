use Rattle.std.proofs.Common.{◌∙◌}
use Rattle.std.proofs.lemmas.Result.{err_from_is_err_and}
use Rattle.serde_json.specs.View.{view}
use Rattle.tk_plan_json.specs.Rows.{children_row, dynamic_row}
use Rattle.tk_plan_json.proofs.HandedFaults.{refuses_whole}
use Rattle.tk_plan_json.proofs.Groups.{passes, stops, row_found}
use Rattle.tk_plan_json.proofs.node_fields.below_members.Goals as goal

pub returns-in_err-has_no_children : goal.returns-in_err-has_no_children
returns-in_err-has_no_children c =
    let p = err_from_is_err_and c.from_residual.result c.from_residual.ensures.1 in
    let m = c.args.members in
    let children = row_found c.args.at children_row m.children (view m.value.now) c.requires.children in
    rw (p.1, p.2) (refuses_whole _ _ _ (λ path w. stops _ _ _ (children ∙ w)) c.in_err-has_no_children.ensures)

pub returns-in_err-has_no_dynamic : goal.returns-in_err-has_no_dynamic
returns-in_err-has_no_dynamic c =
    let p = err_from_is_err_and c.from_residual-in_err-has_no_dynamic.result c.from_residual-in_err-has_no_dynamic.ensures.1 in
    let m = c.args.members in
    let children = row_found c.args.at children_row m.children (view m.value.now) c.requires.children in
    let dynamic = row_found c.args.at dynamic_row m.dynamic (view m.value.now) c.requires.dynamic in
    rw (p.1, p.2) (refuses_whole _ _ _ (λ path w. passes _ _ _ (children ∙ c.in_ok-has_no_children.ensures.0) (stops _ _ _ (dynamic ∙ w))) c.in_err-has_no_dynamic.ensures)
