use Rattle.std.proofs.Common.{take}
use Rattle.tk_streams.specs.Pieces.{Adds, outgoing}
use Rattle.tk_explanations.specs.Rows.{rows_text}
use Rattle.tk_explanations.proofs.explanations.put_rows.Given as goal

abbrev pub invariant-rows : goal.invariant-rows
invariant-rows g l =
    let contents = g.T.Target.contents in
    let broken = g.T.Target.broken in
    Adds (outgoing (contents l.initial.target) (broken l.initial.target) l.initial.piece) (outgoing (contents l.target) (broken l.target) l.piece) (rows_text l.«record» (take l.row-index l.rows))
