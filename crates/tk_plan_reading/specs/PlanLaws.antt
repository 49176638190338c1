-- What holds of plans alone.
use Rattle.std.specs.Prelude.{◌≡◌, ◌≢◌, ℕ, List, [], Result, Ok, Err}
use Rattle.serde_json.specs.Data.{Data}
use Rattle.tk_plan.specs.Trees.{Tree}
use Rattle.tk_plan.specs.Ids.{ids, AreDistinct}
use Rattle.tk_plan.specs.Planned.{Outline}
use Rattle.tk_plan_reading.specs.PlanAnswers.{plan_in, Answered}
use Rattle.tk_plan_reading.specs.PlanOf.{PlanOf}
use Rattle.tk_plan_json.specs.declared.faults.PlanFault.{PlanFault}
use Rattle.tk_plan_json.specs.declared.faults.PlanFault.TheVariants.{Memory}

-- no id of a plan's tree stands at two places
abbrev pub IdsDiffer : Type 0
IdsDiffer = (v : Data) (t : Tree) → PlanOf v ≡ Ok t → AreDistinct (ids [] t)

-- bytes have one answer, where memory doesn't run out
abbrev pub AnswerIsUnique : Type 0
AnswerIsUnique =
    (bytes : List ℕ) (a b : Result Outline PlanFault) → Answered (plan_in bytes) a
    → Answered (plan_in bytes) b → a ≢ Err Memory → b ≢ Err Memory → a ≡ b
