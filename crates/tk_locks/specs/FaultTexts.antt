-- The texts of the faults.
use Rattle.std.specs.Prelude.{ℕ, List, codes}
use Rattle.tk_locks.specs.declared.books.BookFault.{BookFault}
use Rattle.tk_locks.specs.declared.books.BookFault.TheVariants.{Seats, Memory}
use Rattle.tk_locks.specs.declared.books.Busy.{Busy}
use Rattle.tk_locks.specs.declared.books.Busy.TheVariants.{Held, Moved}

abbrev pub book_fault_text : BookFault → List ℕ
book_fault_text Seats = codes "seats must be 1 to 15"
book_fault_text Memory = codes "out of memory"

abbrev pub busy_text : Busy → List ℕ
busy_text (Held word) = codes "a resource is held"
busy_text (Moved read found) = codes "the lock word was changed"
