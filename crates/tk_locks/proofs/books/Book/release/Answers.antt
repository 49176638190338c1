use Rattle.std.proofs.Common.{◌∙◌, ◌∷◌, [], Option, sym, ap, arith}
use Rattle.tk_locks.specs.NeedView.{NeedView}
use Rattle.tk_locks.specs.Books.{BookView, BookSeatView}
use Rattle.tk_locks.proofs.BookSteps.{gives}
use Rattle.tk_locks.proofs.books.Book.release.Goals as goal

pub fetch_sub-requires : goal.fetch_sub-requires
fetch_sub-requires c = let same = ap (λ (z : BookSeatView). z.book) c.seat.view_is ∙ c.requires.of_this ∙ sym c.self.view_is in
    (ap (λ (z : BookView). z.table) same, omega arith, gives _ _ _ c.seat.inside.seat.me c.in-Some.need c.word.result c.word.ensures (c.seat.invariant.one ∙ ap (λ (h : Option NeedView). h ∷ []) c.in-Some.is))
