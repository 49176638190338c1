use Rattle.tk_query.proofs.ExclusionLemmas.{other_pair}
use Rattle.tk_query.proofs.exclusion.Holders.has_pair.Goals as goal

pub returns-in-Some-clause-none : goal.returns-in-Some-clause-none
returns-in-Some-clause-none c = λ is have.
    c.has_other.ensures.none is
    (other_pair c.args.self.now c.in-Some.writer c.in-Some.ensures have)
