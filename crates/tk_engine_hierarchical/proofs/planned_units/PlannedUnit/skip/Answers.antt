use Rattle.std.specs.Prelude.{is_some}
use Rattle.tk_engine_hierarchical.proofs.NodeSteps.{skips_dynamic}
use Rattle.tk_engine_hierarchical.proofs.planned_units.PlannedUnit.skip.Goals as goal

pub returns : goal.returns
returns g c =
    skips_dynamic _ _ _ _ c.take_stamp-stamp.new.self c.take_stamp-skipped.new.self
    c.self-2.inside.events _ c.self-2.inside.next (is_some c.self-2.inside.clock)
    c.take_stamp-stamp.result c.take_stamp-skipped.result _
    c.if-numbered_node.false c.take_stamp-stamp.ensures.stamp c.take_stamp-stamp.ensures.next
    c.take_stamp-skipped.ensures.stamp c.take_stamp-skipped.ensures.next c.self-2.view_is
    c.child_of-child.ensures
    _ _ _ c.in_ok-try_clone.ensures c.skip_child.ensures.ok
