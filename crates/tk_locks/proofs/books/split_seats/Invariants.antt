use Rattle.std.proofs.Common.{◌≡◌, ◌+◌, ◌-◌, length, replicate, [], None, All}
use Rattle.tk_locks.specs.Books.{book_view, empty}
use Rattle.tk_locks.specs.LockWord.{seat_note}
use Rattle.tk_locks.proofs.books.split_seats.Given as goal

abbrev pub invariant-loop : goal.invariant-loop
invariant-loop l = record {
  table : l.first.table_id ≡ l.table.shared.table_id;
  me : l.first.me ≡ (seat_note l.table.shared.key (replicate (l.count + 1 - l.counter) None) [], []);
  dealt : length l.all.items + 1 ≡ l.counter;
  empty_seats : All (λ s. s ≡ empty (book_view l.table.shared.table_id l.table.shared.key)) l.all.items;
}
