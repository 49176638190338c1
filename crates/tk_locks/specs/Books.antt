-- What a clause sees of a book and of its seats.
use Rattle.std.specs.Prelude.{ℕ, List, [], Option, None}
use Rattle.tk_locks.specs.NeedView.{NeedView}
use Rattle.atomic_table.specs.Seated.{TableId}

-- which book it is: its table, and how many seats it has
pub record BookView : Type 0 where
  pub table : TableId
  pub seats : ℕ

abbrev pub book_view : TableId → ℕ → BookView
book_view table seats = record { table = table; seats = seats }

-- a seat of a book, what it holds, and the words that it read
pub record BookSeatView : Type 0 where
  pub book : BookView
  pub holds : Option NeedView
  pub read : List ℕ

-- a seat that has done nothing yet
abbrev pub empty : BookView → BookSeatView
empty name = record { book = name; holds = None; read = [] }
