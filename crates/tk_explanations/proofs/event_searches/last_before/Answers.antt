use Rattle.tk_record.specs.Record.{entry_of_view}
use Rattle.tk_explanations.specs.steps.{passes}
use Rattle.tk_explanations.proofs.SearchLemmas.{sought_more, sought_before, sought_all}
use Rattle.tk_explanations.proofs.event_searches.last_before.Goals as goal

pub entries-preserved : goal.entries-preserved
entries-preserved c = sought_more (passes c.args.test) _ _ _ _ _ (entry_of_view c.in-Some.view) _ _ c.entries.invariant c.in-Some.ensures.steps c.if-position-before.false c.later-found.ensures

pub returns-then-position-before : goal.returns-then-position-before
returns-then-position-before c = sought_before (passes c.args.test) _ _ _ _ _ c.entries.invariant c.if-position-before.true

pub returns : goal.returns
returns c = sought_all (passes c.args.test) _ _ _ _ _ c.entries.invariant c.in-None.ensures.steps.0
