use Rattle.std.proofs.Common.{◌+◌, ap}
use Rattle.tk_query_locks.proofs.lock_numbers.LockNumbers.count.Goals as goal

pub returns : goal.returns
returns c = ap (λ n. n + 1) c.len.ensures.len
