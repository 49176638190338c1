use Rattle.std.proofs.Common.{ℕ, List, ap}
use Rattle.tk_streams.proofs.PieceLemmas.{on_ok}
use Rattle.tk_explanations.specs.Collisions.{overlap_rows}
use Rattle.tk_explanations.specs.declared.rows.Row.TheVariants.{OverlapOver}
use Rattle.tk_explanations.proofs.lock_collisions.add_below.Goals as goal

pub returns-in_ok-try_clone-in-No : goal.returns-in_ok-try_clone-in-No
returns-in_ok-try_clone-in-No c =
    let r = c.args.events.now.recorded in
    let x = c.in_ok-one-in-No.one in
    let y = c.in_ok-one-in-No.other in
    let starts = c.in_ok-one-in-No.ensures in
    let same = ap (λ (name : List ℕ). overlap_rows r x y (OverlapOver x y name)) c.in_ok-try_clone-in-No.ensures in
    rw c.in-No.is (on_ok c.add_overlap.result _ _ (λ added. (_, (x, y, starts.0, starts.1, same), added)) c.add_overlap.ensures)
