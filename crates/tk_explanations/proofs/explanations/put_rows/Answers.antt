use Rattle.tk_explanations.proofs.PieceRows.{row_added}
use Rattle.tk_explanations.proofs.explanations.put_rows.Goals as goal

pub rows-preserved : goal.rows-preserved
rows-preserved g c =
    row_added _ _ _ _ c.args.«record».now c.args.rows.now c.rows.row-index c.row-item.result c.rows-test.true c.row-item.is c.rows.invariant c.put_row.ensures c.put_byte.ensures
