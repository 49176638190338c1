use Rattle.std.proofs.Common.{◌≡◌, ◌==◌, length, ap, ◌∙◌, refl}
use Rattle.std.proofs.lemmas.Result.{err_from_is_err_and}
use Rattle.serde_json.specs.View.{view}
use Rattle.tk_plan_json.specs.Checks.{row}
use Rattle.tk_plan_json.specs.Contents.{listed}
use Rattle.tk_plan_json.specs.Pointers.{pointer, wrong_at}
use Rattle.tk_plan_json.specs.Rows.{dynamic_row}
use Rattle.tk_plan_json.specs.declared.members.json_paths.JsonPath.{JsonPath}
use Rattle.tk_plan_json.proofs.HandedFaults.{refuses_whole}
use Rattle.tk_plan_json.proofs.Groups.{passes, stops, dynamic_groups, row_found}
use Rattle.tk_plan_json.specs.steps.Fields.{AreMembers}
use Rattle.tk_plan_json.specs.declared.node_members.NodeMembers.{NodeMembers}
use Rattle.tk_plan_json.proofs.node_fields.dynamic_fields.Goals as goal

dynamic_found : (at : JsonPath) (m : NodeMembers) → AreMembers m → row (pointer at) (view m.value.now) dynamic_row ≡ wrong_at at dynamic_row m.dynamic
dynamic_found at m are = row_found at dynamic_row m.dynamic (view m.value.now) are.dynamic

pub returns-in_err-check_dynamic_members : goal.returns-in_err-check_dynamic_members
returns-in_err-check_dynamic_members c =
    let p = err_from_is_err_and c.from_residual.result c.from_residual.ensures.1 in
    rw (p.1, p.2) (refuses_whole _ _ _ (λ path w. dynamic_groups c.args.takes_files (pointer c.args.at) (view c.args.members.value.now) ∙ stops _ _ _ w) c.in_err-check_dynamic_members.ensures)

pub returns-in_err-heading : goal.returns-in_err-heading
returns-in_err-heading c =
    let p = err_from_is_err_and c.from_residual-in_err-heading.result c.from_residual-in_err-heading.ensures.1 in
    rw (p.1, p.2) (refuses_whole _ _ _ (λ path w. dynamic_groups c.args.takes_files (pointer c.args.at) (view c.args.members.value.now) ∙ passes _ _ _ c.in_ok-check_dynamic_members.ensures.0 (stops _ _ _ w)) c.in_err-heading.ensures)

pub returns-in_err-content : goal.returns-in_err-content
returns-in_err-content c =
    let p = err_from_is_err_and c.from_residual-in_err-content.result c.from_residual-in_err-content.ensures.1 in
    rw (p.1, p.2) (refuses_whole _ _ _ (λ path w. dynamic_groups c.args.takes_files (pointer c.args.at) (view c.args.members.value.now) ∙ passes _ _ _ c.in_ok-check_dynamic_members.ensures.0 (passes _ _ _ c.in_ok-heading.ensures.0 (stops _ _ _ w))) c.in_err-content.ensures)

pub returns-in_err-is_leaf : goal.returns-in_err-is_leaf
returns-in_err-is_leaf c =
    let p = err_from_is_err_and c.from_residual-in_err-is_leaf.result c.from_residual-in_err-is_leaf.ensures.1 in
    rw (p.1, p.2) (refuses_whole _ _ _ (λ path w. dynamic_groups c.args.takes_files (pointer c.args.at) (view c.args.members.value.now) ∙ passes _ _ _ c.in_ok-check_dynamic_members.ensures.0 (passes _ _ _ c.in_ok-heading.ensures.0 (passes _ _ _ c.in_ok-content.ensures.0 (stops _ _ _ (dynamic_found c.args.at c.args.members c.requires ∙ w))))) c.in_err-is_leaf.ensures)

pub returns : goal.returns
returns c = (
  dynamic_groups c.args.takes_files (pointer c.args.at) (view c.args.members.value.now) ∙ passes _ _ _ c.in_ok-check_dynamic_members.ensures.0 (passes _ _ _ c.in_ok-heading.ensures.0 (passes _ _ _ c.in_ok-content.ensures.0 (passes _ _ _ (dynamic_found c.args.at c.args.members c.requires ∙ c.in_ok-is_leaf.ensures.0) refl))),
  record { heading = c.in_ok-heading.ensures.1; concurrency = record { is_concurrent = c.none.ensures.concurrent; is_isolated = c.none.ensures.isolated; locks = c.none.ensures.locks }; content = c.in_ok-content.ensures.1; leaf = c.in_ok-is_leaf.ensures.1 ∙ ap (λ o. length (listed o) == 0) c.requires.dynamic },
)
