use Rattle.std.proofs.Common.{Some, ap, sym, ◌∙◌}
use Rattle.serde_json.specs.Find.{as_array}
use Rattle.serde_json.specs.View.{view, items_view}
use Rattle.serde_json.proofs.Views.{view-Array}
use Rattle.tk_plan_json.proofs.members.json_values.items_in.Goals as goal

pub returns-in-Array : goal.returns-in-Array
returns-in-Array c =
    ap (λ vs. Some (items_view vs)) c.as_slice.ensures.value ∙ sym (ap (λ v. as_array (view v)) c.in-Array.is ∙ ap as_array (view-Array c.in-Array.items))
