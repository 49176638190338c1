use Rattle.std.proofs.Common.{ℕ, ◌<◌}
use Rattle.tk_query_locks.specs.steps.Holders.{Meet}
use Rattle.tk_query_locks.proofs.holders.Holders.first_met.Given as goal

abbrev pub invariant-loop-first : goal.invariant-loop-first
invariant-loop-first l = (i : ℕ) → i < l.first → ¬ Meet l.self i l.second
