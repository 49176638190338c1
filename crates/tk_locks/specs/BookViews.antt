-- The private fields of a book and its seats.
use Rattle.std.specs.Prelude.{◌≡◌, ◌<◌, [], ◌∷◌}
use Rattle.tk_locks.specs.declared.books.Book.TheInside as book
use Rattle.tk_locks.specs.declared.books.BookSeat.TheInside as seat
use Rattle.tk_locks.specs.Books.{BookView, book_view, BookSeatView}

abbrev pub view_of : book.Inside → BookView
view_of b = book_view b.table.shared.table_id b.table.shared.key

-- a table of one word, with a seat at least
pub record IsBook (b : book.Inside) : Type 0 where
  pub one_word : b.table.shared.table_id.words ≡ 1
  pub no_slot : b.table.shared.table_id.slots ≡ 0
  pub some_seat : 0 < b.table.shared.key

abbrev pub seat_view_of : seat.Inside → BookSeatView
seat_view_of s = record {
  book = book_view s.seat.table_id s.seat.me.0.seats;
  holds = s.held;
  read = s.seat.me.0.seen;
}

-- one seat of the table, whose view has what it holds
pub record IsHolder (s : seat.Inside) : Type 0 where
  pub one : s.seat.me.0.held ≡ s.held ∷ []
  pub no_slot : s.seat.me.1 ≡ []
