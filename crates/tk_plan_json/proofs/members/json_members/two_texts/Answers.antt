use Rattle.std.proofs.Common.{◌≢◌, ◌∙◌, length, IfSome, arith, rules}
use Rattle.tk_plan_json.specs.Checks.{text as is_text}
use Rattle.tk_plan_json.proofs.Items.{not_two}
use Rattle.tk_plan_json.proofs.HandedFaults.{refuses_whole}
use Rattle.tk_plan_json.proofs.members.json_members.two_texts.Goals as goal
use Rattle.tk_plan_json.proofs.members.json_members.two_texts.Goals.{in_default-via-in-Some+then-items_in-lt2, in_default-via-in-Some+else-items_in-lt2+else-this-lt3, in_default-via-in_default}

pub returns-in_default : goal.returns-in_default
returns-in_default c =
    let other : IfSome c.items_in.result (λ vs. length vs.now ≢ 2) =
    elim c.in_default.branch [
      | in_default-via-in-Some+then-items_in-lt2 w ↦ search rules
      | in_default-via-in-Some+else-items_in-lt2+else-this-lt3 w ↦ grind arith
      | in_default-via-in_default w ↦ search rules
    ] in
    refuses_whole _ _ c.wrong_value.result (λ _ w. not_two is_text _ _ _ c.items_in.ensures other ∙ w) c.wrong_value.ensures
