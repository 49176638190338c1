use Rattle.std.proofs.lemmas.Result.{err_from_is_err_and}
use Rattle.tk_ids.proofs.TableLemmas.{inserted_unless_free}
use Rattle.tk_ids.proofs.tables.Table.insert.Goals as goal

pub returns-in_err-check_insertion : goal.returns-in_err-check_insertion
returns-in_err-check_insertion c =
    let p = err_from_is_err_and c.from_residual.result c.from_residual.ensures.1 in
    rw (p.1, p.2) (inserted_unless_free c.args.self.now c.args.descriptor _ c.in_err-check_insertion.ensures)
