-- The texts of the faults of plans.
use Rattle.std.specs.Prelude.{ℕ, List, ◌++◌, codes}
use Rattle.tk_events.specs.Fields.{field_text}
use Rattle.tk_plan_json.specs.declared.faults.PlanFault.{PlanFault}
use Rattle.tk_plan_json.specs.declared.faults.PlanFault.TheVariants.{Json, Field, Id, Table}
use Rattle.tk_plan_json.specs.declared.faults.PlanFault.TheVariants.{TooManyResources}
use Rattle.tk_plan_json.specs.declared.faults.PlanFault.TheVariants.{EntryKeyTwice}
use Rattle.tk_plan_json.specs.declared.faults.PlanFault.TheVariants.{TooManyEvents, Deep}
use Rattle.tk_plan_json.specs.declared.faults.PlanFault.TheVariants.{Memory}

abbrev pub plan_fault_text : PlanFault → List ℕ
plan_fault_text Json = codes "plan is not JSON"
plan_fault_text (Field path) = codes "plan member " ++ field_text path ++ codes " is bad"
plan_fault_text (Id fault) = codes "plan id is bad"
plan_fault_text (Table fault) = codes "plan table is refused"
plan_fault_text TooManyResources = codes "too many resources"
plan_fault_text EntryKeyTwice = codes "entry key twice"
plan_fault_text TooManyEvents = codes "too many events"
plan_fault_text Deep = codes "plan too deep"
plan_fault_text Memory = codes "out of memory"
