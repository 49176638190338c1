-- The texts of the faults of plans in code.
use Rattle.std.specs.Prelude.{ℕ, List, ◌++◌, Option, Some, None, codes}
use Rattle.tk_events.specs.Fields.{field_text}
use Rattle.tk_plan_json.specs.FaultTexts.{plan_fault_text}
use Rattle.tk_plan_reading.specs.declared.build_faults.BuildFault.{BuildFault}

-- what is wrong, and at which node, if a node has the fault
abbrev pub text_at : List ℕ → Option (List ℕ) → List ℕ
text_at text None = text
text_at text (Some id) = text ++ codes ", at node " ++ field_text id

abbrev pub build_fault_text : BuildFault → List ℕ
build_fault_text e = text_at (plan_fault_text e.fault) e.node
