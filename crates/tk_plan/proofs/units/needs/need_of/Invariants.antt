use Rattle.std.proofs.Common.{◌≡◌, ◌<◌, ℕ, drop}
use Rattle.tk_plan.specs.LockNeeds.{over, nodes_ask}
use Rattle.tk_plan.specs.steps.{access_of_masks}
use Rattle.tk_plan.specs.Trees.{contents}
use Rattle.tk_plan.proofs.units.needs.need_of.Given as goal

abbrev pub invariant-loop-other : goal.invariant-loop-other
invariant-loop-other l =
    (r : ℕ) → r < 16 → over (access_of_masks l.masks r) (nodes_ask l.keys (contents (drop l.other-index l.below)) r) ≡ over (access_of_masks l.initial.masks r) (nodes_ask l.keys (contents l.below) r)
