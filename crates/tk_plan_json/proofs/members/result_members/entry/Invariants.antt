use Rattle.std.proofs.Common.{drop, map}
use Rattle.serde_json.specs.View.{view}
use Rattle.tk_plan_json.specs.Checks.{item_at}
use Rattle.tk_plan_json.proofs.EntryPairs.{GoesOn}
use Rattle.tk_plan_json.proofs.members.result_members.entry.Given as goal

abbrev pub invariant-loop-inner : goal.invariant-loop-inner
invariant-loop-inner l = GoesOn (item_at l.array l.index) (view l.value) l.inner l.map.entries l.repeats (map view (drop l.inner l.items))
