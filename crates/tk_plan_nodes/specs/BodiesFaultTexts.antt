-- The texts of the faults of bodies.
use Rattle.std.specs.Prelude.{ℕ, List, ◌++◌, codes}
use Rattle.tk_events.specs.Fields.{field_text}
use Rattle.tk_plan_nodes.specs.declared.bodies_faults.BodiesFault.{BodiesFault}
use Rattle.tk_plan_nodes.specs.declared.bodies_faults.BodiesFault.TheVariants.{Memory, Missing}
use Rattle.tk_plan_nodes.specs.declared.bodies_faults.BodiesFault.TheVariants.{NeverCalled}

abbrev pub bodies_fault_text : BodiesFault → List ℕ
bodies_fault_text (NeverCalled id) = codes "body of " ++ field_text id ++ codes " is never called"
bodies_fault_text (Missing id) = codes "no body for " ++ field_text id
bodies_fault_text Memory = codes "out of memory"
