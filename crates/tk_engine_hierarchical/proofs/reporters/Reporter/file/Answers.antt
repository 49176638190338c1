use Rattle.std.proofs.Common.{inr, subst}
use Rattle.std.specs.Prelude.{OnOk}
use Rattle.tk_engine_unit_events.proofs.UnitSteps.{if_err_then, on_ok}
use Rattle.tk_engine_hierarchical.specs.Reporting.{PublishedNow, IsEventCause, file_at}
use Rattle.tk_engine_hierarchical.proofs.reporters.Reporter.file.Goals as goal

pub returns-clause-ok : goal.returns-clause-ok
returns-clause-ok g c = subst (λ path. OnOk c.publish.result (PublishedNow c.args.self.now.events
    c.publish.new.self (file_at path))) c.in_ok-copy.ensures
    (on_ok c.publish.result c.publish.ensures.ok
    (λ p. (c.stamp-stamp.result, c.stamp-stamp.ensures, p)))

pub returns-clause-cause : goal.returns-clause-cause
returns-clause-cause g c = if_err_then _ _ c.publish.result c.publish.ensures.cause
    (λ why cause. inr (subst (λ path. IsEventCause c.args.self.now.events (file_at path) why)
    c.in_ok-copy.ensures (c.stamp-stamp.result, c.stamp-stamp.ensures, cause)))
