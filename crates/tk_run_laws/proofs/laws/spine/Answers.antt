use Rattle.tk_run_laws.proofs.PlanTrees.{plan_tree}
use Rattle.tk_run_laws.proofs.SpineEvents.{spine_emits, spine_runs}
use Rattle.tk_run_laws.proofs.SpineLifecycle.{spine_keeps}
use Rattle.tk_run_laws.proofs.SpinePlaces.{are_placed}
use Rattle.tk_run_laws.proofs.laws.spine.Goals as goal

pub returns-clause-places : goal.returns-clause-places
returns-clause-places c = are_placed

pub returns-clause-emits : goal.returns-clause-emits
returns-clause-emits c = spine_emits

pub returns-clause-runs : goal.returns-clause-runs
returns-clause-runs c = spine_runs

pub returns-clause-keeps : goal.returns-clause-keeps
returns-clause-keeps c = λ nodes table planned numbers. spine_keeps nodes table (plan_tree nodes table planned numbers)
