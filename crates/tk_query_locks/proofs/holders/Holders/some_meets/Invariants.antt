use Rattle.std.proofs.Common.{ℕ, ◌<◌, get_or}
use Rattle.tk_query_locks.specs.steps.Holders.{Meet}
use Rattle.tk_query_locks.proofs.holders.Holders.some_meets.Given as goal

abbrev pub invariant-loop-first : goal.invariant-loop-first
invariant-loop-first l = (i d : ℕ) → i < l.first-index → ¬ Meet l.self (get_or l.starts i d) l.second
