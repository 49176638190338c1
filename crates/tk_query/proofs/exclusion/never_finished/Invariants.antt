use Rattle.std.proofs.Common.{◌≡◌, ℕ, ◌<◌, ◌≤◌, length, get_or}
use Rattle.std.specs.Prelude.{if◌then◌else◌}
use Rattle.tk_query.specs.Ends.{is_start}
use Rattle.tk_query.proofs.exclusion.never_finished.Given as goal

abbrev pub invariant-loop-start : goal.invariant-loop-start
invariant-loop-start l = record {
  size : length l.ends.items ≡ l.len;
  below : (p : ℕ) → p < l.start → get_or l.ends.items p 0 ≡ (if is_start l.events p then l.len else 0);
  above : (p : ℕ) → l.start ≤ p → get_or l.ends.items p 0 ≡ 0;
}
