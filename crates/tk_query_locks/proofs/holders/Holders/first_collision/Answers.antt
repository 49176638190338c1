use Rattle.std.proofs.Common.{subst}
use Rattle.tk_query_locks.specs.steps.Holders.{IsMeeting}
use Rattle.tk_query_locks.proofs.HolderLemmas.{never_least}
use Rattle.tk_query_locks.proofs.holders.Holders.first_collision.Goals as goal

pub unreachable-requires : goal.unreachable-requires
unreachable-requires c =
    let h = c.args.self.now in
    never_least h c.in-Some.first c.in-Some.second c.least_lock.result c.in_default-least_lock.is c.least_lock.ensures
    (subst (IsMeeting h) c.in-Some.is c.in_ok-first.ensures)
