use Rattle.std.proofs.Common.{◌-◌, drop, sym, subst}
use Rattle.tk_plan.specs.Trees.{IsSplit}
use Rattle.tk_plan.proofs.Grows.{parted}
use Rattle.tk_plan.proofs.trees.nodes.NumberedNode.split.Goals as goal

pub overflow_sub-self : goal.overflow_sub-self
overflow_sub-self c = (parted _ _ c.requires).one

pub split_at-requires : goal.split_at-requires
split_at-requires c = (parted _ _ c.requires).within

pub returns : goal.returns
returns c =
    let n = c.args.self.now.span - 1 in
    let cut = subst (λ a. IsSplit c.args.self.now c.args.after.now a (drop n c.args.after.now)) (sym c.split_at.ensures.front) (parted _ _ c.requires).split in
    subst (λ b. IsSplit c.args.self.now c.args.after.now c.split_at.result.0.now b) (sym c.split_at.ensures.back) cut
