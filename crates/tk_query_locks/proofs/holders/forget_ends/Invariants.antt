use Rattle.std.proofs.Common.{◌≡◌, ℕ, ◌<◌, ◌≤◌, get_or}
use Rattle.tk_query_locks.proofs.holders.forget_ends.Given as goal

abbrev pub invariant-loop-start : goal.invariant-loop-start
invariant-loop-start l = record {
  some : (p : ℕ) → p < l.start → 0 < get_or l.initial.ends p 0 → get_or l.ends p 0 ≡ l.len;
  only : (p : ℕ) → 0 < get_or l.ends p 0 → 0 < get_or l.initial.ends p 0;
  others : (p : ℕ) → l.start ≤ p → get_or l.ends p 0 ≡ get_or l.initial.ends p 0;
}
