use Rattle.std.proofs.Common.{ap, sym, ◌∙◌}
use Rattle.std.specs.Prelude.{Some}
use Rattle.tk_record.specs.Record.{entry_of_view}
use Rattle.tk_explanations.specs.EventSearches.{starts_child}
use Rattle.tk_explanations.proofs.SearchLemmas.{searched_more, searched_here, searched_before, searched_all}
use Rattle.tk_explanations.proofs.event_searches.running_child.Goals as goal

pub entries-preserved : goal.entries-preserved
entries-preserved c = searched_more (starts_child c.args.«record».now c.args.before c.args.text.now) _ _ _ _ _ (entry_of_view c.in-Some.view) c.entries.invariant c.in-Some.ensures.steps c.if-position-before.false (sym c.in_ok-starts_child.ensures ∙ c.if-branch.false)

pub returns-then-position-before : goal.returns-then-position-before
returns-then-position-before c = searched_before (starts_child c.args.«record».now c.args.before c.args.text.now) _ _ _ _ c.entries.invariant c.if-position-before.true

pub returns-then-branch : goal.returns-then-branch
returns-then-branch c = ap Some c.event_at.ensures ∙ searched_here (starts_child c.args.«record».now c.args.before c.args.text.now) _ _ _ _ _ (entry_of_view c.in-Some.view) c.entries.invariant c.in-Some.ensures.steps c.if-position-before.false (sym c.in_ok-starts_child.ensures ∙ c.if-branch.true)

pub returns : goal.returns
returns c = searched_all (starts_child c.args.«record».now c.args.before c.args.text.now) _ _ _ _ c.entries.invariant c.in-None.ensures.steps.0
