use Rattle.tk_queue_session.proofs.sessions.+set_static_count.Given as goal

abbrev pub decreases-set_static_count : goal.decreases-set_static_count
decreases-set_static_count l = l.statics
