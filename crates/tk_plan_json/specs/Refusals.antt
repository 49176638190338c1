-- What is said of a fault, unless it is `Memory`.
use Rattle.tk_plan_json.specs.declared.faults.PlanFault.{PlanFault}
use Rattle.tk_plan_json.specs.declared.faults.PlanFault.TheVariants.{Json, Field, Id, Table}
use Rattle.tk_plan_json.specs.declared.faults.PlanFault.TheVariants.{TooManyResources}
use Rattle.tk_plan_json.specs.declared.faults.PlanFault.TheVariants.{EntryKeyTwice}
use Rattle.tk_plan_json.specs.declared.faults.PlanFault.TheVariants.{TooManyEvents, Deep}
use Rattle.tk_plan_json.specs.declared.faults.PlanFault.TheVariants.{Memory}

-- P holds of the fault, unless memory ran out
abbrev pub IsFault : (PlanFault → Type 0) → PlanFault → Type 0
IsFault P Json = P Json
IsFault P (Field p) = P (Field p)
IsFault P (Id i) = P (Id i)
IsFault P (Table t) = P (Table t)
IsFault P TooManyResources = P TooManyResources
IsFault P EntryKeyTwice = P EntryKeyTwice
IsFault P TooManyEvents = P TooManyEvents
IsFault P Deep = P Deep
IsFault P Memory = Unit {0}
