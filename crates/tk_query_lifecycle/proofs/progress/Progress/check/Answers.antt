use Rattle.std.proofs.Common.{sym, subst}
use Rattle.tk_record.specs.Record.{entry_of_view}
use Rattle.tk_query_lifecycle.specs.Lifecycle.{BreaksFirst}
use Rattle.tk_query_lifecycle.proofs.EventLemmas.{checked_known, checked_missing, checked_at_rest, checked_own, checked_none}
use Rattle.tk_query_lifecycle.proofs.progress.Progress.check.Goals as goal

pub returns-then-knows_id : goal.returns-then-knows_id
returns-then-knows_id c past same p its =
    checked_known past (entry_of_view c.args.event.now) c.args.descriptor.now.id c.args.self.now.states c.args.self.now.ids p its c.registers-registers.result c.knows_id.result c.registers-registers.ensures
    (c.knows_id.ensures past same p.ids_are) c.if-knows_id.true

pub returns-in_default : goal.returns-in_default
returns-in_default c past same p its =
    subst (BreaksFirst past (entry_of_view c.args.event.now)) (sym c.missing_parent.ensures)
    (checked_missing past (entry_of_view c.args.event.now) c.args.descriptor.now.id c.args.self.now.states c.args.self.now.ids p its c.registers-registers.result c.knows_id.result c.registers-registers.ensures
    (c.knows_id.ensures past same p.ids_are) c.if-knows_id.false c.at-state.result c.in_ok-parent.field-0 (c.in_ok-parent.ensures past same p.ids_are) c.in_default.is)

pub returns-then-is_at_rest : goal.returns-then-is_at_rest
returns-then-is_at_rest c past same p its =
    checked_at_rest past (entry_of_view c.args.event.now) c.args.descriptor.now.id c.args.self.now.states c.args.self.now.ids p its c.registers-registers.result c.knows_id.result c.registers-registers.ensures
    (c.knows_id.ensures past same p.ids_are) c.if-knows_id.false c.at-state.result c.at-state.ensures c.in_ok-parent.field-0 c.in-Some.parent (c.in_ok-parent.ensures past same p.ids_are) c.in-Some.is
    c.is_at_rest.result c.is_at_rest.ensures c.if-is_at_rest.true

pub returns-in-Some-refuse : goal.returns-in-Some-refuse
returns-in-Some-refuse c past same p its =
    checked_own past (entry_of_view c.args.event.now) c.args.descriptor.now.id c.args.self.now.states c.args.self.now.ids p its c.registers-registers.result c.knows_id.result c.registers-registers.ensures
    (c.knows_id.ensures past same p.ids_are) c.if-knows_id.false c.at-state.result c.at-state.ensures c.in_ok-parent.field-0 c.in-Some.parent (c.in_ok-parent.ensures past same p.ids_are) c.in-Some.is
    c.is_at_rest.result c.is_at_rest.ensures c.if-is_at_rest.false c.refuse.result c.in-Some-refuse.rule c.refuse.ensures c.in-Some-refuse.is

pub returns-in-None : goal.returns-in-None
returns-in-None c past same p its =
    checked_none past (entry_of_view c.args.event.now) c.args.descriptor.now.id c.args.self.now.states c.args.self.now.ids p its c.registers-registers.result c.knows_id.result c.registers-registers.ensures
    (c.knows_id.ensures past same p.ids_are) c.if-knows_id.false c.at-state.result c.at-state.ensures c.in_ok-parent.field-0 c.in-Some.parent (c.in_ok-parent.ensures past same p.ids_are) c.in-Some.is
    c.is_at_rest.result c.is_at_rest.ensures c.if-is_at_rest.false c.refuse.result c.refuse.ensures c.in-None.is
