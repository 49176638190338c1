use Rattle.std.proofs.Common.{◌∙◌}
use Rattle.std.proofs.lemmas.Result.{err_from_is_err_and}
use Rattle.serde_json.specs.View.{view}
use Rattle.tk_plan_json.specs.Pointers.{pointer}
use Rattle.tk_plan_json.proofs.HandedFaults.{refuses_whole}
use Rattle.tk_plan_json.proofs.Groups.{passes, stops, static_groups}
use Rattle.tk_plan_json.proofs.node_fields.static_fields.Goals as goal

pub returns-in_err-check_static_members : goal.returns-in_err-check_static_members
returns-in_err-check_static_members c =
    let p = err_from_is_err_and c.from_residual.result c.from_residual.ensures.1 in
    rw (p.1, p.2) (refuses_whole _ _ _ (λ path w. static_groups c.args.takes_files (pointer c.args.at) (view c.args.members.value.now) ∙ stops _ _ _ w) c.in_err-check_static_members.ensures)

pub returns-in_err-heading : goal.returns-in_err-heading
returns-in_err-heading c =
    let p = err_from_is_err_and c.from_residual-in_err-heading.result c.from_residual-in_err-heading.ensures.1 in
    rw (p.1, p.2) (refuses_whole _ _ _ (λ path w. static_groups c.args.takes_files (pointer c.args.at) (view c.args.members.value.now) ∙ passes _ _ _ c.in_ok-check_static_members.ensures.0 (stops _ _ _ w)) c.in_err-heading.ensures)

pub returns-in_err-concurrency : goal.returns-in_err-concurrency
returns-in_err-concurrency c =
    let p = err_from_is_err_and c.from_residual-in_err-concurrency.result c.from_residual-in_err-concurrency.ensures.1 in
    rw (p.1, p.2) (refuses_whole _ _ _ (λ path w. static_groups c.args.takes_files (pointer c.args.at) (view c.args.members.value.now) ∙ passes _ _ _ c.in_ok-check_static_members.ensures.0 (passes _ _ _ c.in_ok-heading.ensures.0 (stops _ _ _ w))) c.in_err-concurrency.ensures)

pub returns-in_err-content : goal.returns-in_err-content
returns-in_err-content c =
    let p = err_from_is_err_and c.from_residual-in_err-content.result c.from_residual-in_err-content.ensures.1 in
    rw (p.1, p.2) (refuses_whole _ _ _ (λ path w. static_groups c.args.takes_files (pointer c.args.at) (view c.args.members.value.now) ∙ passes _ _ _ c.in_ok-check_static_members.ensures.0 (passes _ _ _ c.in_ok-heading.ensures.0 (passes _ _ _ c.in_ok-concurrency.ensures.0 (stops _ _ _ w)))) c.in_err-content.ensures)

pub returns-in_err-is_leaf : goal.returns-in_err-is_leaf
returns-in_err-is_leaf c =
    let p = err_from_is_err_and c.from_residual-in_err-is_leaf.result c.from_residual-in_err-is_leaf.ensures.1 in
    rw (p.1, p.2) (refuses_whole _ _ _ (λ path w. static_groups c.args.takes_files (pointer c.args.at) (view c.args.members.value.now) ∙ passes _ _ _ c.in_ok-check_static_members.ensures.0 (passes _ _ _ c.in_ok-heading.ensures.0 (passes _ _ _ c.in_ok-concurrency.ensures.0 (passes _ _ _ c.in_ok-content.ensures.0 w)))) c.in_err-is_leaf.ensures)

pub returns : goal.returns
returns c = (
  static_groups c.args.takes_files (pointer c.args.at) (view c.args.members.value.now) ∙ passes _ _ _ c.in_ok-check_static_members.ensures.0 (passes _ _ _ c.in_ok-heading.ensures.0 (passes _ _ _ c.in_ok-concurrency.ensures.0 (passes _ _ _ c.in_ok-content.ensures.0 c.in_ok-is_leaf.ensures.0))),
  record { heading = c.in_ok-heading.ensures.1; concurrency = c.in_ok-concurrency.ensures.1; content = c.in_ok-content.ensures.1; leaf = c.in_ok-is_leaf.ensures.1 },
)
