use Rattle.tk_run_laws.proofs.NodeLabels.{run_shows}
use Rattle.tk_run_laws.proofs.NodeLifecycle.{relied_on}
use Rattle.tk_run_laws.proofs.PlanTrees.{plan_tree}
use Rattle.tk_run_laws.proofs.laws.listener.Goals as goal

pub returns : goal.returns
returns c = λ nodes table workers r planned numbers run.
    let plan = plan_tree nodes table planned numbers in
    relied_on nodes table r plan (run_shows nodes table workers r plan run)
