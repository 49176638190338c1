use Rattle.std.proofs.Common.{◌∙◌, sym, ap, arith}
use Rattle.tk_locks.specs.Books.{BookView, BookSeatView}
use Rattle.tk_locks.proofs.BookSteps.{looks}
use Rattle.tk_locks.proofs.books.Book.look.Goals as goal

pub load-requires : goal.load-requires
load-requires c = let same = ap (λ (z : BookSeatView). z.book) c.seat.view_is ∙ c.requires.of_this ∙ sym c.self.view_is in
    (ap (λ (z : BookView). z.table) same, omega arith, looks _ _ _ c.seat.inside.seat.me (ap (λ (z : BookView). z.seats) same))
