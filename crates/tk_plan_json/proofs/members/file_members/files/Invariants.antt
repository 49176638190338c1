use Rattle.std.proofs.Common.{◌≡◌, drop, take, map}
use Rattle.serde_json.specs.View.{view}
use Rattle.tk_plan_json.specs.Checks.{array_of, items_wrong}
use Rattle.tk_plan_json.specs.Rows.{nonempty_text}
use Rattle.tk_plan_json.specs.Contents.{json_path}
use Rattle.tk_plan_json.proofs.members.file_members.files.Given as goal

abbrev pub invariant-loop-index : goal.invariant-loop-index
invariant-loop-index l =
    (array_of nonempty_text l.at (view l.value) ≡ items_wrong nonempty_text l.at l.index (map view (drop l.index l.items)))
    × (l.paths.items ≡ map json_path (map view (take l.index l.items)))
