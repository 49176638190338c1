use Rattle.std.proofs.Common.{◌≢◌, string_bytes, arith}
use Rattle.tk_plan_json.proofs.Escapes.{plain_pushed}
use Rattle.tk_plan_json.proofs.members.path_texts.push_escaped.Goals as goal

pub returns-in_default : goal.returns-in_default
returns-in_default c =
    let h : c.args.character ≢ 126 = omega arith in
    let k : c.args.character ≢ 47 = omega arith in
    plain_pushed c.push.result (string_bytes c.args.path.now) (string_bytes c.push.new.self) c.args.character h k c.push.ensures.bytes
