use Rattle.std.proofs.Common.{◌≡◌, drop, take, map}
use Rattle.serde_json.specs.View.{view}
use Rattle.tk_plan_json.specs.Checks.{array_of, items_wrong}
use Rattle.tk_plan_json.specs.Rows.{lock}
use Rattle.tk_plan_json.specs.Contents.{json_lock}
use Rattle.tk_plan_json.proofs.members.lock_members.locks.Given as goal

abbrev pub invariant-loop-index : goal.invariant-loop-index
invariant-loop-index l =
    (array_of lock l.at (view l.value) ≡ items_wrong lock l.at l.index (map view (drop l.index l.items)))
    × (l.locks.items ≡ map json_lock (map view (take l.index l.items)))
