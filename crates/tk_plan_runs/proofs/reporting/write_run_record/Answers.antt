use Rattle.tk_plan_runs.proofs.reporting.write_run_record.Goals as goal

pub returns-in-Ok-clause-answer : goal.returns-in-Ok-clause-answer
returns-in-Ok-clause-answer g c = rw (← c.recorded.ensures) c.in-Ok.ensures.ok

pub returns-in-Err-clause-answer : goal.returns-in-Err-clause-answer
returns-in-Err-clause-answer g c = rw (← c.recorded.ensures) c.in-Err.ensures.err
