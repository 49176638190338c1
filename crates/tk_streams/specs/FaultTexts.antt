-- The texts of the faults.
use Rattle.std.specs.Prelude.{ℕ, List, codes}
use Rattle.tk_streams.specs.declared.transfers.LoadFault.{LoadFault}
use Rattle.tk_streams.specs.declared.transfers.LoadFault.TheVariants.{TooLarge, Device, Memory}

abbrev pub load_fault_text : LoadFault → List ℕ
load_fault_text TooLarge = codes "input too large"
load_fault_text Device = codes "device failed"
load_fault_text Memory = codes "out of memory"
