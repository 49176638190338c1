use Rattle.std.proofs.Common.{◌∙◌}
use Rattle.tk_report_text.proofs.LinesById.{gathers_all, gathers_next, gathers_none, next_known}
use Rattle.tk_report_text.proofs.grouping.lines_of.Goals as goal

pub entries-init : goal.entries-init
entries-init c =
    gathers_none c.args.«record».now c.in_ok-kept.kept c.into_iter-view-iterator.result c.in_ok-kept.ensures.grouped c.in_ok-kept.ensures.empty
    (c.into_iter-view-iterator.ensures.into_iter_gives ∙ c.iter-view-items.ensures) c.shows_record.ensures.known

pub add-requires-clause-known : goal.add-requires-clause-known
add-requires-clause-known c = next_known c.args.«record».now c.entries.kept c.entries.view-iterator c.next.new.self c.in-Some.view c.entries.invariant c.in-Some.ensures.steps

pub entries-preserved : goal.entries-preserved
entries-preserved c = gathers_next c.args.«record».now c.entries.kept c.add.new.self c.entries.view-iterator c.next.new.self c.in-Some.view c.entries.invariant c.in-Some.ensures.steps c.in_ok-add.ensures

pub returns : goal.returns
returns c = gathers_all c.args.«record».now c.entries.kept c.entries.view-iterator c.entries.invariant c.in-None.ensures.steps.0
