use Rattle.testkit_program.proofs.jobs.write_results.Goals as goal

pub returns-in-Report-clause-answer : goal.returns-in-Report-clause-answer
returns-in-Report-clause-answer g c = rw c.in-Report.is c.write_report.ensures.answer
