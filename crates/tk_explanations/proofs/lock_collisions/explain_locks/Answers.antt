use Rattle.tk_explanations.specs.LockCollisions.{IsLockExplanation}
use Rattle.tk_explanations.proofs.ExplanationRows.{explained}
use Rattle.tk_explanations.proofs.lock_collisions.explain_locks.Goals as goal

pub returns-clause-written : goal.returns-clause-written
returns-clause-written g c =
    explained (IsLockExplanation c.args.events.now) c.args.events.now.recorded c.«record».result.now c.in_ok-explanation.explanation.is_yes c.in_ok-explanation.explanation.rows.items
    (g.T.Target.contents c.args.target.now) (g.T.Target.contents c.write.new.target) c.write.result c.«record».ensures c.in_ok-explanation.ensures c.write.ensures.written
