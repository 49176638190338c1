use Rattle.tk_explanations.specs.EventSearches.{starts_child}
use Rattle.tk_explanations.proofs.SearchLemmas.{IsSearched}
use Rattle.tk_explanations.proofs.event_searches.running_child.Given as goal

abbrev pub invariant-entries : goal.invariant-entries
invariant-entries l = IsSearched (starts_child l.«record» l.before l.text) l.before l.position l.«record».entries l.view-iterator
