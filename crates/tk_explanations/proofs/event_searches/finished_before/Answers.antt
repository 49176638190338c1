use Rattle.std.specs.HashSet.{contains}
use Rattle.std.specs.Prelude.{nat_eq}
use Rattle.tk_events.specs.declared.kinds.Kind.TheVariants.{Finished}
use Rattle.tk_record.specs.Record.{entry_of_view}
use Rattle.tk_explanations.proofs.SearchLemmas.{keys_more}
use Rattle.tk_explanations.proofs.event_searches.finished_before.Goals as goal

pub entries-preserved : goal.entries-preserved
entries-preserved c =
    keys_more Finished _ _ _ _ _ (entry_of_view c.in-Some.view) (contains nat_eq c.entries.keys) (contains nat_eq c.add_finished.new.keys) c.entries.invariant c.in-Some.ensures.steps c.if-position-before.false c.in_ok-add_finished.ensures
