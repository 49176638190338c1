use Rattle.std.proofs.Common.{sym, ◌∙◌, ap, slice_get}
use Rattle.tk_engine_unit_events.specs.Running.{with_ids}
use Rattle.tk_engine_unit_events.proofs.UnitStates.{may_start}
use Rattle.tk_engine_unit_events.proofs.unit_ids.may_start.Goals as goal

pub returns-then-owner-unit : goal.returns-then-owner-unit
returns-then-owner-unit c = λ has.
    let is = ap (λ t. slice_get t c.args.key) (sym (c.deref.ensures ∙ c.table.ensures))
    ∙ sym c.in-Some.ensures in
    may_start c.args.shape.now c.args.unit c.args.key
    (with_ids c.args.shape.now.plan.table c.args.running.now.elements) c.in-Some.descriptor.now
    c.shows_shape.ensures.different is (sym c.owner.ensures ∙ c.if-owner-unit.true)
    (c.has_running_parent.ensures.among has) (c.has_running_parent.ensures.innermost has)
