use Rattle.tk_explanations.specs.Collisions.{IsExclusiveExplanation}
use Rattle.tk_explanations.proofs.ExplanationRows.{explained}
use Rattle.tk_explanations.proofs.collisions.explain_exclusive.Goals as goal

pub returns-clause-written : goal.returns-clause-written
returns-clause-written g c =
    explained (IsExclusiveExplanation c.args.events.now c.args.writers.now c.args.readers.now) c.args.events.now.recorded c.«record».result.now c.in_ok-explanation.explanation.is_yes c.in_ok-explanation.explanation.rows.items
    (g.T.Target.contents c.args.target.now) (g.T.Target.contents c.write.new.target) c.write.result c.«record».ensures c.in_ok-explanation.ensures c.write.ensures.written
