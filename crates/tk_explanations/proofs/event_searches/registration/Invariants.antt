use Rattle.tk_explanations.specs.EventSearches.{registers_id}
use Rattle.tk_explanations.proofs.SearchLemmas.{IsSearched}
use Rattle.tk_explanations.proofs.event_searches.registration.Given as goal

abbrev pub invariant-entries : goal.invariant-entries
invariant-entries l = IsSearched (registers_id l.text) l.before l.position l.«record».entries l.view-iterator
