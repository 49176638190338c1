use Rattle.tk_run_laws.proofs.PlanTrees.{plan_tree}
use Rattle.tk_run_laws.proofs.PlayedScripts.{unit_plays}
use Rattle.tk_run_laws.proofs.laws.scripts_are_playable.Goals as goal

pub returns : goal.returns
returns c = λ nodes table unit planned numbers. unit_plays nodes table (plan_tree nodes table planned numbers) unit
