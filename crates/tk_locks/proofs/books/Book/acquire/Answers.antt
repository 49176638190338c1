use Rattle.std.proofs.Common.{◌∙◌}
use Rattle.tk_locks.proofs.RefusedTries.{busy_again}
use Rattle.tk_locks.proofs.books.Book.acquire.Goals as goal

pub loop-preserved : goal.loop-preserved
loop-preserved g c = record {
  next = tt;
  finite = tt;
  same = c.in-Err.ensures.book ∙ c.loop.invariant.same;
  nothing = c.in-Err.ensures.empty;
  refused = busy_again _ _ _ _ c.in-Err.field-0 c.loop.invariant.refused c.in-Err.ensures.busy;
}
