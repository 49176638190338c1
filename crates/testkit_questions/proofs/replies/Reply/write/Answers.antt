use Rattle.testkit_questions.proofs.replies.Reply.write.Goals as goal

pub returns-in-Executions-clause-err : goal.returns-in-Executions-clause-err
returns-in-Executions-clause-err g c = rw c.in-Executions.is c.write_executions.ensures.err

pub returns-in-Events-clause-err : goal.returns-in-Events-clause-err
returns-in-Events-clause-err g c = rw c.in-Events.is c.write_event_list.ensures.err
