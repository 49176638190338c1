use Rattle.std.proofs.Common.{string_bytes, arith}
use Rattle.tk_plan_nodes.proofs.IdEscapes.{IsPlain, plain_pushed}
use Rattle.tk_plan_nodes.proofs.node_ids.push_character.Goals as goal

pub returns-in_default : goal.returns-in_default
returns-in_default c =
    let plain : IsPlain c.args.character = record {
      percent_sign = omega arith;
      plus_sign = omega arith;
      open_bracket = omega arith;
      close_bracket = omega arith;
      colon = omega arith;
      slash = omega arith;
    } in
    plain_pushed c.push.result (string_bytes c.args.out.now) (string_bytes c.push.new.self) c.args.character plain c.push.ensures.bytes
