use Rattle.tk_query.proofs.execution.Executions.succeeded.Goals as goal

pub returns : goal.returns
returns c = c.ended.ensures
