use Rattle.testkit_headline.proofs.Records.{reported_on}
use Rattle.testkit_headline.proofs.laws.report_plan.Goals as goal

pub returns : goal.returns
returns g c = reported_on _ _ _ _ c.plan_report.result c.plan_report.ensures.answer
