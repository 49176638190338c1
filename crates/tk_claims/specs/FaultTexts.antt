-- The texts of the faults.
use Rattle.std.specs.Prelude.{ℕ, List, codes}
use Rattle.tk_claims.specs.declared.claims.ClaimFault.{ClaimFault}
use Rattle.tk_claims.specs.declared.claims.ClaimFault.TheVariants.{Seats, Memory}

abbrev pub claim_fault_text : ClaimFault → List ℕ
claim_fault_text Seats = codes "seats must be 1 to 15"
claim_fault_text Memory = codes "out of memory"
