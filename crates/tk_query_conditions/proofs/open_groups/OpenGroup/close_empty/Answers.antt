use Rattle.std.proofs.Common.{sym, ap, ◌∙◌}
use Rattle.tk_query_conditions.specs.steps.Reader.{group_of}
use Rattle.tk_query_conditions.specs.steps.Reading.{closed_empty}
use Rattle.tk_query_conditions.proofs.ReaderLemmas.{no_items, some_items, empty_All, empty_Any, some_All, some_Any}
use Rattle.tk_query_conditions.proofs.open_groups.OpenGroup.close_empty.Goals as goal

pub returns-then-is_empty : goal.returns-then-is_empty
returns-then-is_empty c = empty_All c.in-All.members (no_items c.in-All.members c.is_empty.result c.is_empty.ensures c.if-is_empty.true) ∙ ap (λ f. closed_empty (group_of f)) (sym c.in-All.is)

pub returns-else-is_empty : goal.returns-else-is_empty
returns-else-is_empty c = sym (ap (λ f. closed_empty (group_of f)) c.in-All.is ∙ some_All c.in-All.members.items (some_items c.in-All.members c.is_empty.result c.is_empty.ensures c.if-is_empty.false))

pub returns-then-is_empty-2 : goal.returns-then-is_empty-2
returns-then-is_empty-2 c = empty_Any c.in-Any.members (no_items c.in-Any.members c.is_empty-in-Any.result c.is_empty-in-Any.ensures c.if-is_empty-2.true) ∙ ap (λ f. closed_empty (group_of f)) (sym c.in-Any.is)

pub returns-else-is_empty-2 : goal.returns-else-is_empty-2
returns-else-is_empty-2 c = sym (ap (λ f. closed_empty (group_of f)) c.in-Any.is ∙ some_Any c.in-Any.members.items (some_items c.in-Any.members c.is_empty-in-Any.result c.is_empty-in-Any.ensures c.if-is_empty-2.false))
