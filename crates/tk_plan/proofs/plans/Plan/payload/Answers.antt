use Rattle.std.proofs.Common.{sym, subst, ◌∙◌}
use Rattle.std.proofs.lemmas.Option.{same_Some}
use Rattle.tk_plan.specs.Known.{Does}
use Rattle.tk_plan.proofs.plans.Plan.payload.Goals as goal

pub payload-requires : goal.payload-requires
payload-requires c = (c.args.self.now.nodes, subst (λ n. Does c.args.self.now.nodes n c.args.step.act) (same_Some _ _ (sym c.requires.is ∙ c.node.ensures)) c.requires.does)
