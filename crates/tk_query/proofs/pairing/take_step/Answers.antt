use Rattle.tk_query.proofs.pairing.take_step.Goals as goal

pub returns-clause-starts : goal.returns-clause-starts
returns-clause-starts c = rw (← c.opened_by.ensures) c.replace-started.ensures.after
