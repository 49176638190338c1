use Rattle.std.proofs.Common.{arith}
use Rattle.tk_query_locks.proofs.ParentLemmas.{parents_all}
use Rattle.tk_query_locks.proofs.parents.Parents.of.Goals as goal

pub returns : goal.returns
returns c =
    let past = c.loop-position-test.false in
    let size = c.len-position-end.ensures.value in
    parents_all c.args.«record».now c.loop-position.parents c.loop-position.position c.loop-position.invariant
    (omega (arith, past, size))
