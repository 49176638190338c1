-- The text of each fault.
use Rattle.std.specs.Prelude.{ℕ, List, codes}
use Rattle.tk_explanations.specs.declared.faults.ExplainFault.{ExplainFault}
use Rattle.tk_explanations.specs.declared.faults.ExplainFault.TheVariants.{Device, Memory}

abbrev pub explain_fault_text : ExplainFault → List ℕ
explain_fault_text Device = codes "device failed"
explain_fault_text Memory = codes "out of memory"
