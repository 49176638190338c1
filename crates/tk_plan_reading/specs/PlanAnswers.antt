-- What reading a plan answers.
use Rattle.std.specs.Prelude.{◌≡◌, ℕ, List, [], None, Some, Option, Result, Ok, Err, if◌then◌else◌}
use Rattle.std.specs.Str.{is_utf8}
use Rattle.serde_json.specs.Data.{Data}
use Rattle.serde_json.specs.Read.{read}
use Rattle.tk_plan.specs.Trees.{Tree, flat}
use Rattle.tk_plan.specs.Numbers.{numbered}
use Rattle.tk_plan.specs.Ids.{descriptors}
use Rattle.tk_plan.specs.Planned.{Outline}
use Rattle.tk_plan_reading.specs.PlanOf.{PlanOf}
use Rattle.tk_plan_json.specs.Refusals.{IsFault}
use Rattle.tk_plan_json.specs.declared.faults.PlanFault.{PlanFault}
use Rattle.tk_plan_json.specs.declared.faults.PlanFault.TheVariants.{Json}
use Rattle.tk_plan_reading.specs.declared.build_faults.BuildFault.{BuildFault}

-- a tree's nodes in preorder with their numbers, and the descriptors of the static ones
abbrev pub outline : Tree → Outline
outline t = record { nodes = numbered (flat t); table = descriptors [] t }

-- the plan is answered, or the fault, unless memory ran out
abbrev pub Answered : Result Tree PlanFault → Result Outline PlanFault → Type 0
Answered plan (Ok p) = (t : Tree) × (plan ≡ Ok t) × (p ≡ outline t)
Answered plan (Err e) = IsFault (λ f. plan ≡ Err f) e

-- the answer, whichever node has the fault
abbrev pub without_node : Result Outline BuildFault → Result Outline PlanFault
without_node (Ok p) = Ok p
without_node (Err e) = Err e.fault

-- the value that the bytes are
abbrev pub value_of : List ℕ → Option Data
value_of bytes = if is_utf8 bytes then read bytes else None

-- the plan of a value, or `Json` where there is none
abbrev pub plan_or_json : Option Data → Result Tree PlanFault
plan_or_json None = Err Json
plan_or_json (Some d) = PlanOf d

-- The plan of the value that the bytes are, or `Json` where they are none.
abbrev pub plan_in : List ℕ → Result Tree PlanFault
plan_in bytes = plan_or_json (value_of bytes)
