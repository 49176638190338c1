use Rattle.std.proofs.Common.{◌∙◌, ◌≡◌, ◌+◌, ◌<◌, ◌^◌, ◌∷◌, [], ℕ, Option, Some, None, ⊎_elim, sym, ap, subst, refl, arith}
use Rattle.atomic_table.specs.Table.{Me}
use Rattle.tk_locks.specs.NeedView.{NeedView}
use Rattle.tk_locks.specs.Holdings.{WereHeld}
use Rattle.tk_locks.specs.Books.{BookView, BookSeatView}
use Rattle.tk_locks.specs.declared.rules.SeatNote.{SeatNote}
use Rattle.tk_locks.proofs.LaneWords.{has_room}
use Rattle.tk_locks.proofs.BookSteps.{looks, takes}
use Rattle.tk_locks.proofs.books.Book.try_acquire.Goals as goal

pub load-seen-requires : goal.load-seen-requires
load-seen-requires c = let same = ap (λ (z : BookSeatView). z.book) c.seat.view_is ∙ c.requires.of_this ∙ sym c.self.view_is in
    (ap (λ (z : BookView). z.table) same, omega arith, looks _ _ _ c.seat.inside.seat.me (ap (λ (z : BookView). z.seats) same))

pub overflow_add-seen : goal.overflow_add-seen
overflow_add-seen c = let room : c.load-seen.result + c.word-word.result < 2 ^ 64 = has_room 16 c.load-seen.result c.word-word.result (c.if-not-admits.ensures.0 refl) (omega arith) (omega arith) in omega arith

pub compare_exchange_with-found-requires : goal.compare_exchange_with-found-requires
compare_exchange_with-found-requires c = let same = ap (λ (z : BookSeatView). z.book) c.seat.view_is ∙ c.requires.of_this ∙ sym c.self.view_is in let after = c.load-seen.ensures.2.0 in
    let none : c.load-seen.new.seat.me.0.held ≡ None ∷ [] = ap (λ (m : Me NeedView SeatNote). m.0.held) after ∙ c.seat.invariant.one ∙ ap (λ (h : Option NeedView). h ∷ []) (ap (λ (z : BookSeatView). z.holds) c.seat.view_is ∙ c.requires.empty) in (
      c.load-seen.ensures.0 ∙ ap (λ (z : BookView). z.table) same,
      omega arith,
      takes _ _ _ c.load-seen.new.seat.me (ap (λ (m : Me NeedView SeatNote). m.0.seats) after ∙ ap (λ (z : BookView). z.seats) same) c.args.need c.load-seen.result c.word-word.result c.word-word.ensures none (c.if-not-admits.ensures.0 refl),
    )

pub returns-then-found-seen-clause-together : goal.returns-then-found-seen-clause-together
returns-then-found-seen-clause-together c =
    let after = c.load-seen.ensures.2.0 in
    let none : c.load-seen.new.seat.me.0.held ≡ None ∷ [] =
    ap (λ (m : Me NeedView SeatNote). m.0.held) after ∙ c.seat.invariant.one
    ∙ ap (λ (h : Option NeedView). h ∷ [])
    (ap (λ (z : BookSeatView). z.holds) c.seat.view_is ∙ c.requires.empty) in
    let known : c.load-seen.new.seat.me.0.seats ≡ c.args.self.now.seats =
    ap (λ (m : Me NeedView SeatNote). m.0.seats) after
    ∙ ap (λ (z : BookSeatView). z.book.seats) c.seat.view_is
    ∙ ap (λ (z : BookView). z.seats) c.requires.of_this in
    ⊎_elim
    (λ e. (
      c.seat.inside.seat.me.0.seen,
      c.load-seen.result,
      ap (λ (m : Me NeedView SeatNote). m.0.seen) e.1.after
          ∙ ap (λ (m : Me NeedView SeatNote). m.0.seen) after,
      subst (λ (k : ℕ). WereHeld c.args.self.now.seats (Some c.args.need) (c.load-seen.result + k))
          c.word-word.ensures (subst (λ (k : ℕ). WereHeld k (Some c.args.need) (c.load-seen.result + c.word-word.result)) known (e.1.together c.args.need refl none)),
    ))
    (λ e. absurd (e.0 c.if-found-seen.true))
    c.compare_exchange_with-found.ensures.2
