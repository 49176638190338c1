use Rattle.std.proofs.Common.{sym, subst, refl}
use Rattle.tk_queue_session.specs.PassViews.{IsFirst}
use Rattle.tk_queue_session.proofs.RuleSteps.{bits_own}
use Rattle.tk_queue_session.proofs.sessions.+set_static_count.Goals as goal

pub another-requires-clause-rule : goal.another-requires-clause-rule
another-requires-clause-rule t c = bits_own 0 _ _ (subst IsFirst (sym c.set_static_count.ensures.count_is_set) refl)

pub another-requires-else-statics-eq0-2-clause-rule : goal.another-requires-else-statics-eq0-2-clause-rule
another-requires-else-statics-eq0-2-clause-rule t c = bits_own 1 _ _ (subst IsFirst (sym c.set_static_count.ensures.count_is_set) refl)
