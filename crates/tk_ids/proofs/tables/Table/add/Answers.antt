use Rattle.std.proofs.lemmas.Result.{err_from_is_err_and}
use Rattle.tk_ids.proofs.TableLockLemmas.{child_has_parent}
use Rattle.tk_ids.proofs.TableLemmas.{added_refused, added_unless_free}
use Rattle.tk_ids.proofs.tables.Table.add.Goals as goal

pub returns-in_err-id : goal.returns-in_err-id
returns-in_err-id c =
    let p = err_from_is_err_and c.from_residual.result c.from_residual.ensures.1 in
    let invariant = c.self.invariant in
    rw (p.1, p.2) (added_refused c.self.inside.by_text.entries c.args.self.now c.args.parent c.args.segment.now c.args.name.now c.args.dtype _ invariant.0 c.self.view_is c.in_err-id.ensures)

pub returns-in_err-check_free : goal.returns-in_err-check_free
returns-in_err-check_free c =
    let p = err_from_is_err_and c.from_residual-in_err-check_free.result c.from_residual-in_err-check_free.ensures.1 in
    rw (p.1, p.2) (added_unless_free c.args.self.now c.args.parent c.args.segment.now c.args.name.now c.args.dtype c.in_ok-id.id _ c.in_ok-id.ensures.0 c.in_err-check_free.ensures)

pub push-requires-clause-parent : goal.push-requires-clause-parent
push-requires-clause-parent c = child_has_parent c.args.self.now c.args.parent c.args.segment.now c.in_ok-id.id c.in_ok-id.ensures.0
