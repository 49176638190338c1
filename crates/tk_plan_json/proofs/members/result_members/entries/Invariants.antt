use Rattle.std.proofs.Common.{drop, map}
use Rattle.serde_json.specs.View.{view}
use Rattle.tk_plan_json.proofs.EntryPairs.{Reported}
use Rattle.tk_plan_json.proofs.members.result_members.entries.Given as goal

abbrev pub invariant-loop-index : goal.invariant-loop-index
invariant-loop-index l =
    Reported l.at (view l.value) l.index l.entries.items l.repeats (map view (drop l.index l.items))
