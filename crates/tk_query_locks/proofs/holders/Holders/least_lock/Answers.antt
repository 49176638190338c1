use Rattle.std.proofs.Common.{sym}
use Rattle.tk_query_locks.proofs.HolderLemmas.{least_at}
use Rattle.tk_query_locks.proofs.holders.Holders.least_lock.Goals as goal

pub returns : goal.returns
returns c =
    least_at c.args.self.now.conflicts c.args.first c.args.second c.in_ok-a.a.now c.in_ok-b.b.now
    (sym c.in_ok-a.ensures) (sym c.in_ok-b.ensures) c.least_lock.result c.least_lock.ensures
