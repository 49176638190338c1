-- The report of a plan as a function of its bytes.
use Rattle.std.specs.Prelude.{ℕ, List, Option, Some, None, Result, Ok, Err}
use Rattle.tk_plan.specs.Trees.{Tree}
use Rattle.tk_plan_json.specs.declared.faults.PlanFault.{PlanFault}
use Rattle.tk_plan_reading.specs.PlanAnswers.{plan_in}
use Rattle.tk_plan_runs.specs.Answers.{plan_text}

-- the report of a plan, where there is one
abbrev pub report_of : Result Tree PlanFault → Option (List ℕ)
report_of (Ok t) = Some (plan_text t)
report_of (Err fault) = None

-- the report of the plan that the bytes are, where they are one
abbrev pub report_in : List ℕ → Option (List ℕ)
report_in bytes = report_of (plan_in bytes)
