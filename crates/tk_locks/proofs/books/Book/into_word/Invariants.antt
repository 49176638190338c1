use Rattle.std.proofs.Common.{◌≡◌, ◌++◌, vec_len, List, All}
use Rattle.tk_locks.specs.Books.{BookSeatView}
use Rattle.tk_locks.proofs.GatheredSeats.{Gathered}
use Rattle.tk_locks.proofs.books.Book.into_word.Given as goal

abbrev pub invariant-loop-next : goal.invariant-loop-next
invariant-loop-next l = record {
  table : l.seat.table_id ≡ l.table.shared.table_id;
  of_this : All (λ s. s.book ≡ l.fn.self) l.seats.items;
  pooled : (all : List BookSeatView) × (l.seats.items ++ all ≡ l.fn.seats.items) × Gathered all l.seat.me;
}

abbrev pub decreases-loop-next : goal.decreases-loop-next
decreases-loop-next l = vec_len l.seats
