use Rattle.std.proofs.Common.{arith}
use Rattle.tk_record.specs.Record.{entry_of_view}
use Rattle.tk_query_conditions.specs.CondOf.{cond_of}
use Rattle.tk_query_nearest.proofs.HoldingLemmas.{counted_without}
use Rattle.tk_query_nearest.proofs.parts.missing_of_member.Goals as goal

pub returns-in_default : goal.returns-in_default
returns-in_default c =
    counted_without c.args.«record».now (entry_of_view c.args.event.now)
    (cond_of c.args.member.now) c.missing_others.result c.missing_others.ensures.value
    (omega arith)
