use Rattle.std.proofs.Common.{◌≡◌, Some, codes, arith}
use Rattle.serde_json.specs.Find.{get}
use Rattle.serde_json.specs.View.{view}
use Rattle.tk_plan_json.specs.Checks.{member_at}
use Rattle.tk_plan_json.specs.Pointers.{pointer}
use Rattle.tk_plan_json.proofs.LawfulFiles.{files_read}
use Rattle.tk_plan_json.proofs.members.file_members.files_member.Goals as goal

pub returns-in_ok-path-in-Some : goal.returns-in_ok-path-in-Some
returns-in_ok-path-in-Some c =
    let there : get (codes "files") (view c.args.object.now) ≡ Some (view c.in-Some.value.now) = grind arith in
    let here : c.deref.result.now ≡ member_at (pointer c.args.at) (codes "files") = grind arith in
    files_read (pointer c.args.at) c.deref.result.now (view c.args.object.now) (view c.in-Some.value.now) c.args.takes_files
    c.if-not-takes_files.false there here c.files.result c.files.ensures
