use Rattle.std.proofs.Common.{◌==◌, length, sym, ap, ◌∙◌}
use Rattle.std.proofs.lemmas.List.{length-map}
use Rattle.serde_json.specs.View.{view}
use Rattle.tk_plan_json.specs.Checks.{member_wrong, may, any_array, member_at}
use Rattle.tk_plan_json.specs.Pointers.{pointer, viewed}
use Rattle.tk_plan_json.specs.Contents.{listed}
use Rattle.tk_plan_json.proofs.Items.{listed_items, is_any_array}
use Rattle.tk_plan_json.proofs.members.json_members.array_member.Goals as goal

pub returns-in-Some-items_in : goal.returns-in-Some-items_in
returns-in-Some-items_in c =
    let e = c.in-Some-items_in.ensures in
    let found = sym (ap viewed c.in-Some.is) in (
      ap (member_wrong (may c.args.name.now any_array) (member_at (pointer c.args.at) c.args.name.now)) (sym found) ∙ is_any_array _ _ _ e,
      c.is_empty.ensures ∙ ap (λ n. n == 0) (sym (length-map c.in-Some-items_in.items.now view) ∙ ap length (sym (listed_items _ _ e) ∙ ap listed found)),
    )
