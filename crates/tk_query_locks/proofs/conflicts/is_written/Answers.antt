use Rattle.std.proofs.Common.{ap, arith, length}
use Rattle.tk_query_locks.proofs.ParentLemmas.{unwritten}
use Rattle.tk_query_locks.proofs.conflicts.is_written.Goals as goal

pub returns : goal.returns
returns c = λ none.
    let past = c.loop-key-test.false in
    let size = c.len-key-end.ensures.len in
    let table = ap length c.table.ensures in
    unwritten c.args.«record».now c.args.name.now c.loop-key.key c.shows_record.ensures c.loop-key.invariant
    (omega (arith, past, size, table))
