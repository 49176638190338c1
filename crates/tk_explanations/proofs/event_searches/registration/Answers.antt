use Rattle.std.proofs.Common.{ap, sym, ◌∙◌}
use Rattle.std.specs.Prelude.{Some}
use Rattle.tk_record.specs.Record.{entry_of_view}
use Rattle.tk_explanations.specs.EventSearches.{registers_id}
use Rattle.tk_explanations.proofs.SearchLemmas.{searched_more, searched_here, searched_before, searched_all}
use Rattle.tk_explanations.proofs.event_searches.registration.Goals as goal

pub entries-preserved : goal.entries-preserved
entries-preserved c = searched_more (registers_id c.args.text.now) _ _ _ _ _ (entry_of_view c.in-Some.view) c.entries.invariant c.in-Some.ensures.steps c.if-position-before.false (sym c.registers_id.ensures ∙ c.if-registers_id.false)

pub returns-then-position-before : goal.returns-then-position-before
returns-then-position-before c = searched_before (registers_id c.args.text.now) _ _ _ _ c.entries.invariant c.if-position-before.true

pub returns-then-registers_id : goal.returns-then-registers_id
returns-then-registers_id c = ap Some c.event_at.ensures ∙ searched_here (registers_id c.args.text.now) _ _ _ _ _ (entry_of_view c.in-Some.view) c.entries.invariant c.in-Some.ensures.steps c.if-position-before.false (sym c.registers_id.ensures ∙ c.if-registers_id.true)

pub returns : goal.returns
returns c = searched_all (registers_id c.args.text.now) _ _ _ _ c.entries.invariant c.in-None.ensures.steps.0
