use Rattle.tk_queue_session.proofs.RuleSteps.{pushes_own, learns_nothing}
use Rattle.tk_queue_session.proofs.pushes.try_push.Goals as goal

pub push_as-requires-clause-rule : goal.push_as-requires-clause-rule
push_as-requires-clause-rule g c = (pushes_own _ _ _ _ c.requires.may, learns_nothing _ _)
