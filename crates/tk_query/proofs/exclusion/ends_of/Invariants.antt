use Rattle.std.proofs.Common.{length}
use Rattle.tk_query.specs.Pairing.{rest_of}
use Rattle.tk_query.proofs.EndLemmas.{AreSoFar}
use Rattle.tk_query.proofs.exclusion.ends_of.Given as goal

abbrev pub invariant-executions : goal.invariant-executions
invariant-executions l = AreSoFar l.events l.pairing l.ends.items

abbrev pub decreases-executions : goal.decreases-executions
decreases-executions l = length (rest_of l.events l.pairing)
