use Rattle.std.proofs.Common.{take}
use Rattle.std.specs.List.{flat_map}
use Rattle.tk_streams.specs.Pieces.{Adds, outgoing}
use Rattle.tk_report_text.specs.GroupedLines.{id_with_lines}
use Rattle.tk_report_text.proofs.writing.put_ids.Given as goal

abbrev pub invariant-ids : goal.invariant-ids
invariant-ids g l =
    let contents = g.T.Target.contents in
    let broken = g.T.Target.broken in
    Adds (outgoing (contents l.initial.target) (broken l.initial.target) l.initial.piece) (outgoing (contents l.target) (broken l.target) l.piece)
    (flat_map id_with_lines (take l.entry-index l.ids))
