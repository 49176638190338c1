use Rattle.std.specs.HashSet.{contains}
use Rattle.std.specs.Prelude.{nat_eq}
use Rattle.tk_events.specs.declared.kinds.Kind.TheVariants.{Finished}
use Rattle.tk_explanations.proofs.SearchLemmas.{AreKeysOf}
use Rattle.tk_explanations.proofs.event_searches.finished_before.Given as goal

abbrev pub invariant-entries : goal.invariant-entries
invariant-entries l = AreKeysOf Finished l.before l.position l.«record».entries l.view-iterator (contains nat_eq l.keys)
