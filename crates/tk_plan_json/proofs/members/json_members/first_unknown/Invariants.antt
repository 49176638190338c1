use Rattle.std.proofs.Common.{◌≡◌, ℕ, List, map}
use Rattle.serde_json.specs.View.{members_view}
use Rattle.tk_plan_json.specs.Checks.{unknown_in}
use Rattle.tk_plan_json.proofs.UnknownMembers.{unknown_among}
use Rattle.tk_plan_json.proofs.members.json_members.first_unknown.Given as goal

abbrev pub invariant-loop-name : goal.invariant-loop-name
invariant-loop-name l =
    (at : List ℕ) → unknown_in (map (λ n. n.now) l.names) at (members_view l.members.entries) ≡ unknown_among (map (λ n. n.now) l.names) at l.name-iterator
