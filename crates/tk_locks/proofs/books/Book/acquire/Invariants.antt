use Rattle.std.proofs.Common.{◌≡◌, None}
use Rattle.tk_locks.specs.Needs.{word_of}
use Rattle.tk_locks.specs.Tries.{WereBusy}
use Rattle.tk_locks.proofs.books.Book.acquire.Given as goal

abbrev pub invariant-loop : goal.invariant-loop
invariant-loop g l = record {
  next : (goal.iterator-loop g).can_next l.iterator';
  finite : (goal.iterator-loop g).is_finite l.iterator';
  same : l.seat.book ≡ l.initial.seat.book;
  nothing : l.seat.holds ≡ None;
  refused : WereBusy l.initial.seat.read l.seat.read (word_of l.need);
}
