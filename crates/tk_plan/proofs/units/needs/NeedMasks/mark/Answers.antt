use Rattle.std.proofs.Common.{sym, ap, ◌∙◌, Some}
use Rattle.tk_plan.specs.LockNeeds.{over, at_resource, access_for}
use Rattle.tk_plan.specs.steps.{access_of_masks}
use Rattle.tk_plan.proofs.MaskMarks.{marks_read, marks_write}
use Rattle.tk_plan.proofs.units.needs.NeedMasks.mark.Goals as goal

pub returns-in-Read : goal.returns-in-Read
returns-in-Read c = λ r h.
    marks_read c.args.self.now.reads c.args.self.now.writes c.args.resource c.requires r
    ∙ ap (λ m. over (access_of_masks c.args.self.now r) (at_resource (Some c.args.resource) (access_for m) r)) (sym c.in-Read.is)

pub returns-in-ReadWrite : goal.returns-in-ReadWrite
returns-in-ReadWrite c = λ r h.
    marks_write c.args.self.now.reads c.args.self.now.writes c.args.resource c.requires r
    ∙ ap (λ m. over (access_of_masks c.args.self.now r) (at_resource (Some c.args.resource) (access_for m) r)) (sym c.in-ReadWrite.is)
