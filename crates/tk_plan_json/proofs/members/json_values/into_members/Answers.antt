use Rattle.tk_plan_json.proofs.TakenMembers.{first_taken, second_taken}
use Rattle.tk_plan_json.proofs.members.json_values.into_members.Goals as goal

pub returns-clause-of_first : goal.returns-clause-of_first
returns-clause-of_first c = first_taken c.args.first.now c.args.second.now c.args.object c.in-Object.members c.in-Object.is c.remove-of_first.result c.remove-of_first.ensures.value

pub returns-clause-of_second : goal.returns-clause-of_second
returns-clause-of_second c =
    second_taken c.args.first.now c.args.second.now c.args.object c.in-Object.members c.in-Object.is c.remove-of_second.result _ c.requires c.remove-of_first.ensures.entries
    c.remove-of_second.ensures.value
