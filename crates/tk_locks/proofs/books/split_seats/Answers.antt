use Rattle.std.proofs.Common.{arith, ap}
use Rattle.tk_locks.specs.NeedView.{NeedView}
use Rattle.tk_locks.specs.declared.rules.SeatNote.{SeatNote}
use Rattle.atomic_table.specs.Table.{Me}
use Rattle.tk_locks.proofs.BookSteps.{splits}
use Rattle.tk_locks.proofs.books.split_seats.Goals as goal

pub split_seat-seat-requires : goal.split_seat-seat-requires
split_seat-seat-requires c = let me = c.loop.invariant.me in let test = c.loop-test.true in
    (c.loop.invariant.table, c.requires.table, splits _ _ c.loop.first.me.0 _ (omega arith) (ap (λ (z : Me NeedView SeatNote). z.0.held) me))
