use Rattle.std.proofs.Common.{◌≢◌, string_bytes, arith}
use Rattle.tk_query_conditions.proofs.WritingLemmas.{plain_pushed}
use Rattle.tk_query_conditions.proofs.writing.push_character.Goals as goal

pub returns-in_default : goal.returns-in_default
returns-in_default c =
    let percent : c.args.character ≢ 37 = omega arith in
    let opening : c.args.character ≢ 40 = omega arith in
    let closing : c.args.character ≢ 41 = omega arith in
    let comma : c.args.character ≢ 44 = omega arith in
    plain_pushed c.push.result (string_bytes c.args.out.now) (string_bytes c.push.new.self) c.args.character percent opening closing comma c.push.ensures.bytes
