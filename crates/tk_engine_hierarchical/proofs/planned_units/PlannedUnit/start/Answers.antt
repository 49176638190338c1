use Rattle.std.specs.Prelude.{is_some}
use Rattle.tk_engine_hierarchical.proofs.NodeSteps.{starts_dynamic}
use Rattle.tk_engine_hierarchical.proofs.planned_units.PlannedUnit.start.Goals as goal

pub returns-clause-start : goal.returns-clause-start
returns-clause-start g c =
    starts_dynamic _ _ _ _ c.take_stamp-registered.new.self c.take_stamp-stamp-2.new.self
    c.self-2.inside.events _ c.self-2.inside.next (is_some c.self-2.inside.clock)
    c.take_stamp-registered.result c.take_stamp-stamp-2.result _
    c.if-numbered_node.false c.take_stamp-registered.ensures.stamp
    c.take_stamp-registered.ensures.next c.take_stamp-stamp-2.ensures.stamp
    c.take_stamp-stamp-2.ensures.next c.self-2.view_is c.child_of-child.ensures
    _ _ _ c.body_stamp-published-2.ensures c.set_planned_stamp-2.ensures
    c.start_child.ensures.started
