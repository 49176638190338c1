use Rattle.std.proofs.Common.{ap}
use Rattle.std.specs.List.{flat_map}
use Rattle.tk_streams.proofs.PieceLemmas.{adds_as, adds_both, none_sent, on_ok, on_err}
use Rattle.tk_report_text.specs.GroupedLines.{id_with_lines}
use Rattle.tk_report_text.proofs.writing.Report.write.Goals as goal

pub returns-clause-ok : goal.returns-clause-ok
returns-clause-ok g c =
    let statistics = adds_as _ _ _ _ c.as_slice.ensures.value c.put.ensures in
    let ids = adds_as _ _ _ _ (ap (flat_map id_with_lines) c.as_slice-2.ensures.value) c.put_ids.ensures in
    on_ok c.finish.result _ _ (λ sent. sent _ _ ((adds_as _ _ _ _ c.self.view_is (adds_both _ _ _ _ _ statistics ids)).follow _ _ (none_sent (g.T.Target.contents c.args.target.now) (g.T.Target.broken c.args.target.now) c.new-piece.result c.new-piece.ensures))) c.finish.ensures.ok

pub returns-clause-err : goal.returns-clause-err
returns-clause-err g c =
    let statistics = adds_as _ _ _ _ c.as_slice.ensures.value c.put.ensures in
    let ids = adds_as _ _ _ _ (ap (flat_map id_with_lines) c.as_slice-2.ensures.value) c.put_ids.ensures in
    on_err c.finish.result _ _ (λ sent. sent _ _ ((adds_as _ _ _ _ c.self.view_is (adds_both _ _ _ _ _ statistics ids)).follow _ _ (none_sent (g.T.Target.contents c.args.target.now) (g.T.Target.broken c.args.target.now) c.new-piece.result c.new-piece.ensures))) c.finish.ensures.err
