use Rattle.std.proofs.Common.{◌≡◌, ◌≤◌, None}
use Rattle.test_runs.proofs.books.work.Given as goal

abbrev pub invariant-loop-round : goal.invariant-loop-round
invariant-loop-round g l = record {
  of_this : l.seat.book ≡ l.book;
  empty : l.seat.holds ≡ None;
  counted : l.torn ≤ l.round;
}
