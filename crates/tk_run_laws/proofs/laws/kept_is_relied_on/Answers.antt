use Rattle.std.proofs.Common.{subst}
use Rattle.tk_ids.specs.Table.{AreDifferent}
use Rattle.tk_query_lifecycle.specs.KeepsLifecycle.{KeepsLifecycle}
use Rattle.tk_report_text.specs.Labels.{labels}
use Rattle.tk_run_laws.specs.Listening.{Listens}
use Rattle.tk_run_laws.proofs.laws.kept_is_relied_on.Goals as goal

pub returns : goal.returns
returns c =
    let r = c.args.«record».now in
    let different : AreDifferent r.table = subst AreDifferent c.table.ensures c.shows_different_ids.ensures in
    let listens : KeepsLifecycle r → Listens (labels r) = c.lifecycle_is_relied_on.ensures r c.shows_record.ensures different in
    record { keeps = listens; kept = λ kept. listens ((c.kept_by_its_events.ensures.kept r different).0 kept).0 }
