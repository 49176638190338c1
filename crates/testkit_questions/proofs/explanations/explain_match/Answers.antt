use Rattle.testkit_questions.proofs.explanations.explain_match.Goals as goal

pub returns-in-Exactly-clause-written : goal.returns-in-Exactly-clause-written
returns-in-Exactly-clause-written g c = rw c.in-Exactly.is c.explain_exactly.ensures.written

pub returns-in-Loosely-clause-written : goal.returns-in-Loosely-clause-written
returns-in-Loosely-clause-written g c = rw c.in-Loosely.is c.explain_loosely.ensures.written

pub returns-in-InOrder-clause-written : goal.returns-in-InOrder-clause-written
returns-in-InOrder-clause-written g c = rw c.in-InOrder.is c.explain_in_order.ensures.written
