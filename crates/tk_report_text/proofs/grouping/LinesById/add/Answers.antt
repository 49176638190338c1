use Rattle.std.proofs.Common.{ap, set}
use Rattle.tk_report_text.proofs.LinesById.{line_added, on_ok}
use Rattle.tk_report_text.proofs.grouping.LinesById.add.Goals as goal

pub returns : goal.returns
returns c =
    on_ok c.add.result
    (λ added. line_added c.args.«record».now c.args.self.now c.index_of_key.new.self _ c.args.view.now c.in_ok-index.index c.index_mut.result.now
    c.in_ok-index.ensures c.index_mut.ensures.value (ap (λ w. set c.index_of_key.new.self.ids.items c.in_ok-index.index (c.index_mut.result.now.0, w)) added))
    c.add.ensures
