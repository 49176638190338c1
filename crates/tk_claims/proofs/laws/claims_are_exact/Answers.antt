use Rattle.tk_claims.proofs.ClaimLaws.{number, order}
use Rattle.tk_claims.proofs.laws.claims_are_exact.Goals as goal

pub returns-clause-number : goal.returns-clause-number
returns-clause-number c = number

pub returns-clause-order : goal.returns-clause-order
returns-clause-order c = order
