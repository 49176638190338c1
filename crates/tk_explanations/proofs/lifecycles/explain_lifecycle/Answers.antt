use Rattle.std.proofs.Common.{refl}
use Rattle.tk_explanations.specs.Lifecycles.{IsLifecycleExplanation}
use Rattle.tk_explanations.proofs.ExplanationRows.{explained}
use Rattle.tk_explanations.proofs.lifecycles.explain_lifecycle.Goals as goal

pub returns-clause-written : goal.returns-clause-written
returns-clause-written g c =
    explained (IsLifecycleExplanation c.args.«record».now) c.args.«record».now c.args.«record».now c.in_ok-explanation.explanation.is_yes c.in_ok-explanation.explanation.rows.items
    (g.T.Target.contents c.args.target.now) (g.T.Target.contents c.write.new.target) c.write.result refl c.in_ok-explanation.ensures c.write.ensures.written
