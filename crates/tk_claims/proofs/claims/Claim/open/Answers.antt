use Rattle.std.proofs.Common.{arith, refl}
use Rattle.tk_claims.proofs.ClaimSteps.{opens}
use Rattle.tk_claims.proofs.claims.Claim.open.Goals as goal

pub of_words-requires : goal.of_words-requires
of_words-requires c = opens _ (omega arith) (omega arith)

pub returns-then-seats-eq0-clause-fault : goal.returns-then-seats-eq0-clause-fault
returns-then-seats-eq0-clause-fault c = (λ _. grind arith, λ _. refl)
