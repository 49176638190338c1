use Rattle.tk_explanations.specs.steps.{passes}
use Rattle.tk_explanations.proofs.SearchLemmas.{IsSearchedFor}
use Rattle.tk_explanations.proofs.event_searches.last_before.Given as goal

abbrev pub invariant-entries : goal.invariant-entries
invariant-entries l = IsSearchedFor (passes l.test) l.before l.position l.«record».entries l.view-iterator l.found
