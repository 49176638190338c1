use Rattle.std.proofs.Common.{◌∙◌, sym, ap}
use Rattle.std.proofs.lemmas.List.{drop_all}
use Rattle.tk_plan.specs.LockNeeds.{over, nodes_ask}
use Rattle.tk_plan.specs.steps.{access_of_masks}
use Rattle.tk_plan.specs.Trees.{contents}
use Rattle.tk_plan.proofs.MaskMarks.{over-nothing, none_marked}
use Rattle.tk_plan.proofs.units.needs.need_of.Goals as goal

pub returns : goal.returns
returns c = λ r h.
    let below = c.args.below.now in
    let keys = c.args.keys.now in
    c.of.ensures r h
    ∙ sym (over-nothing (access_of_masks c.loop-other.masks r))
    ∙ ap (λ ps. over (access_of_masks c.loop-other.masks r) (nodes_ask keys (contents ps) r)) (sym (drop_all c.loop-other.other-index below c.loop-other-test.false))
    ∙ c.loop-other.invariant r h
    ∙ ap (λ a. over a (nodes_ask keys (contents below) r)) (c.mark_node.ensures r h ∙ none_marked r _)
