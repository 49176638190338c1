use Rattle.tk_streams.proofs.PieceLemmas.{adds_as, adds_both, none_sent, on_ok, on_err}
use Rattle.tk_explanations.proofs.statistics.write_with_rows.Goals as goal

pub returns-clause-ok : goal.returns-clause-ok
returns-clause-ok g c =
    let head = adds_as _ _ _ _ c.as_bytes.ensures.value c.put.ensures in
    let all = adds_both _ _ _ _ _ head c.put_rows.ensures in
    on_ok c.finish.result _ _ (λ sent. sent _ _ (all.follow _ _ (none_sent (g.T.Target.contents c.args.target.now) (g.T.Target.broken c.args.target.now) c.new-piece.result c.new-piece.ensures))) c.finish.ensures.ok

pub returns-clause-err : goal.returns-clause-err
returns-clause-err g c =
    let head = adds_as _ _ _ _ c.as_bytes.ensures.value c.put.ensures in
    let all = adds_both _ _ _ _ _ head c.put_rows.ensures in
    on_err c.finish.result _ _ (λ sent. sent _ _ (all.follow _ _ (none_sent (g.T.Target.contents c.args.target.now) (g.T.Target.broken c.args.target.now) c.new-piece.result c.new-piece.ensures))) c.finish.ensures.err
