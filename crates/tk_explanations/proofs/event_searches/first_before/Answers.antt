use Rattle.std.proofs.Common.{ap, sym, ◌∙◌}
use Rattle.std.specs.Prelude.{Some}
use Rattle.tk_record.specs.Record.{entry_of_view}
use Rattle.tk_explanations.specs.steps.{passes}
use Rattle.tk_explanations.proofs.SearchLemmas.{searched_more, searched_here, searched_before, searched_all}
use Rattle.tk_explanations.proofs.event_searches.first_before.Goals as goal

pub entries-preserved : goal.entries-preserved
entries-preserved c = searched_more (passes c.args.test) _ _ _ _ _ (entry_of_view c.in-Some.view) c.entries.invariant c.in-Some.ensures.steps c.if-position-before.false (sym c.passes.ensures ∙ c.if-passes.false)

pub returns-then-position-before : goal.returns-then-position-before
returns-then-position-before c = searched_before (passes c.args.test) _ _ _ _ c.entries.invariant c.if-position-before.true

pub returns-then-passes : goal.returns-then-passes
returns-then-passes c = ap Some c.event_at.ensures ∙ searched_here (passes c.args.test) _ _ _ _ _ (entry_of_view c.in-Some.view) c.entries.invariant c.in-Some.ensures.steps c.if-position-before.false (sym c.passes.ensures ∙ c.if-passes.true)

pub returns : goal.returns
returns c = searched_all (passes c.args.test) _ _ _ _ c.entries.invariant c.in-None.ensures.steps.0
