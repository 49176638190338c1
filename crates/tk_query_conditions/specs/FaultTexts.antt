-- The text of each fault.
use Rattle.std.specs.Prelude.{ℕ, List, ◌++◌, codes}
use Rattle.std.specs.Fmt.{decimal}
use Rattle.tk_query_conditions.specs.declared.faults.CondFault.{CondFault}
use Rattle.tk_query_conditions.specs.declared.faults.CondFault.TheVariants.{BadAtom, Deep, Memory}

abbrev pub condition_fault_text : CondFault → List ℕ
condition_fault_text (BadAtom at) = codes "bad at " ++ decimal at
condition_fault_text Deep = codes "too deep"
condition_fault_text Memory = codes "out of memory"
