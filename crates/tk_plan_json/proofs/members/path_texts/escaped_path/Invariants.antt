use Rattle.std.proofs.Common.{◌≡◌, ◌++◌, flat_map, string_bytes}
use Rattle.tk_plan_json.specs.Checks.{escape, member_at}
use Rattle.tk_plan_json.specs.Pointers.{pointer}
use Rattle.tk_plan_json.proofs.members.path_texts.escaped_path.Given as goal

abbrev pub invariant-loop-character : goal.invariant-loop-character
invariant-loop-character l = string_bytes l.path ++ flat_map escape l.character-iterator.rest.now ≡ member_at (pointer l.at) l.name
