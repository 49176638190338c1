use Rattle.std.proofs.Common.{Err, ap}
use Rattle.tk_plan_runs.proofs.reporting.write_report.Goals as goal

pub returns-in-Ok-clause-answer : goal.returns-in-Ok-clause-answer
returns-in-Ok-clause-answer g c = rw (← c.recorded.ensures) c.in-Ok.ensures.ok

pub returns-in-Err-Device-clause-answer : goal.returns-in-Err-Device-clause-answer
returns-in-Err-Device-clause-answer g c = rw (← c.recorded.ensures) c.in-Err-Device.ensures.err

pub returns-in-Err-Memory-clause-unwritten : goal.returns-in-Err-Memory-clause-unwritten
returns-in-Err-Memory-clause-unwritten g c = λ _. c.in-Err-Memory.ensures.unwritten (ap (λ f. Err f) c.in-Err-Memory.field-0-is)
