use Rattle.tk_run_laws.proofs.PlanTrees.{plan_tree}
use Rattle.tk_run_laws.proofs.SameReports.{report_law}
use Rattle.tk_run_laws.proofs.laws.report_is_unique.Goals as goal

pub returns : goal.returns
returns c = λ nodes table workers r planned numbers run. report_law nodes table (plan_tree nodes table planned numbers) workers r run
