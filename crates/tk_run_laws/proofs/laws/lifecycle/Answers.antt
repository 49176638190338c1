use Rattle.std.proofs.Common.{sym, subst}
use Rattle.tk_query_lifecycle.specs.Lifecycle.{IsLifecycle}
use Rattle.tk_query_lifecycle.specs.declared.lifecycle_rules.Lifecycle.TheVariants.{Kept}
use Rattle.tk_run_laws.proofs.DueKeys.{due_keys_run}
use Rattle.tk_run_laws.proofs.NodeLabels.{run_shows}
use Rattle.tk_run_laws.proofs.PlanTrees.{node_of, plan_tree}
use Rattle.tk_run_laws.proofs.NodeLifecycle.{ids_differ, keeps as kept}
use Rattle.tk_run_laws.specs.Laws.{DueKeysRun, RunsKeepLifecycle}
use Rattle.tk_run_laws.proofs.laws.lifecycle.Goals as goal

keeps : RunsKeepLifecycle
keeps nodes table workers r planned numbers run =
    let plan = plan_tree nodes table planned numbers in
    kept nodes table r plan (run_shows nodes table workers r plan run)

due : DueKeysRun
due nodes table workers r planned numbers run = due_keys_run nodes table workers r (plan_tree nodes table planned numbers) run (node_of nodes table planned numbers)

pub returns : goal.returns
returns c = record {
  keeps = keeps;
  due = due;
  kept = λ nodes table workers r planned numbers run answer.
      let plan = plan_tree nodes table planned numbers in
      let different = ids_differ nodes table r plan (run_shows nodes table workers r plan run) in
      let kept = (c.kept_by_its_events.ensures.kept r different).1 (keeps nodes table workers r planned numbers run, due nodes table workers r planned numbers run) in
      (λ is. c.lifecycle_is_unique.ensures.one r answer Kept is kept, λ same. subst (IsLifecycle r) (sym same) kept);
}
