use Rattle.std.proofs.Common.{Some, option_map, sym, ap, ◌∙◌}
use Rattle.serde_json.specs.View.{view}
use Rattle.serde_json.proofs.Views.{view-Array}
use Rattle.tk_plan_json.specs.Contents.{listed}
use Rattle.tk_plan_json.proofs.Items.{list_of-items_view}
use Rattle.tk_plan_json.proofs.members.json_values.into_items.Goals as goal

pub returns-in-Array : goal.returns-in-Array
returns-in-Array c =
    let items = c.in-Array.items in
    sym (ap (λ v. listed (option_map view v)) c.in-Some.is ∙ ap (λ v. listed (Some (view v))) c.in-Array.is ∙ ap (λ d. listed (Some d)) (view-Array items) ∙ list_of-items_view items.items)
