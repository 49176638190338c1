use Rattle.tk_report_text.proofs.ReportParts.{id_added}
use Rattle.tk_report_text.proofs.writing.put_ids.Goals as goal

pub ids-preserved : goal.ids-preserved
ids-preserved g c = id_added _ _ _ c.args.ids.now c.ids.entry-index c.entry-item.result c.ids-test.true c.entry-item.is c.ids.invariant c.put_id.ensures
