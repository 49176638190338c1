use Rattle.tk_explanations.specs.steps.{passes}
use Rattle.tk_explanations.proofs.SearchLemmas.{IsSearched}
use Rattle.tk_explanations.proofs.event_searches.first_before.Given as goal

abbrev pub invariant-entries : goal.invariant-entries
invariant-entries l = IsSearched (passes l.test) l.before l.position l.«record».entries l.view-iterator
