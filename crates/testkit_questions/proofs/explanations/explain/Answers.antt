use Rattle.std.proofs.Common.{List, ap, subst, ◌∙◌}
use Rattle.tk_record.specs.Selections.{Selected}
use Rattle.tk_query_conditions.specs.declared.conditions.Condition.{Condition}
use Rattle.tk_explanations.specs.Collisions.{ExplainsExclusive}
use Rattle.tk_explanations.specs.Explained.{IsExplained}
use Rattle.tk_explanations.specs.LockCollisions.{ExplainsLocks}
use Rattle.tk_explanations.specs.Lists.{ExplainsExecutions, ExplainsList}
use Rattle.tk_explanations.specs.Statistics.{ExplainsStatistics}
use Rattle.testkit_questions.specs.Answers.{events_where, picked}
use Rattle.testkit_questions.specs.Explanations.{ExplainsMatch}
use Rattle.testkit_questions.proofs.explanations.explain.Goals as goal

pub returns-in_ok-events-in-Stats-clause-written : goal.returns-in_ok-events-in-Stats-clause-written
returns-in_ok-events-in-Stats-clause-written g c = rw c.in-Stats.is (
    subst (λ (s : Selected). IsExplained (ExplainsStatistics s c.in-Stats.expected)
    (g.T.Target.contents c.args.target.now) (g.T.Target.contents c.explain_statistics.new.target)
    c.explain_statistics.result)
    c.in_ok-events-in-Stats.ensures c.explain_statistics.ensures.written)

pub returns-in_ok-events-in-Match-clause-written : goal.returns-in_ok-events-in-Match-clause-written
returns-in_ok-events-in-Match-clause-written g c = rw c.in-Match.is (
    subst (λ (cs : List Condition). IsExplained
    (ExplainsMatch c.in-Match.mode (picked c.in-Match.selection c.args.«record».now) cs)
    (g.T.Target.contents c.args.target.now) (g.T.Target.contents c.explain_match.new.target)
    c.explain_match.result)
    c.as_slice.ensures.value
    (subst (λ (s : Selected). IsExplained (ExplainsMatch c.in-Match.mode s c.as_slice.result.now)
    (g.T.Target.contents c.args.target.now) (g.T.Target.contents c.explain_match.new.target)
    c.explain_match.result)
    c.in_ok-events-in-Match.ensures c.explain_match.ensures.written))

pub returns-in_ok-events-in-List-clause-written : goal.returns-in_ok-events-in-List-clause-written
returns-in_ok-events-in-List-clause-written g c = rw c.in-List.is (
    subst (λ (s : Selected). IsExplained (ExplainsList s)
    (g.T.Target.contents c.args.target.now) (g.T.Target.contents c.explain_list.new.target)
    c.explain_list.result)
    (c.in_ok-events-in-List.ensures
    ∙ ap (λ (cs : List Condition). events_where c.in-List.selection cs c.args.«record».now)
    c.as_slice-in-List.ensures.value)
    c.explain_list.ensures.written)

pub returns-in_ok-events-in-Exclusive-clause-written : goal.returns-in_ok-events-in-Exclusive-clause-written
returns-in_ok-events-in-Exclusive-clause-written g c = rw c.in-Exclusive.is (
    subst (λ (s : Selected). IsExplained (ExplainsExclusive s c.in-Exclusive.writers c.in-Exclusive.readers)
    (g.T.Target.contents c.args.target.now) (g.T.Target.contents c.explain_exclusive.new.target)
    c.explain_exclusive.result)
    c.in_ok-events-in-Exclusive.ensures c.explain_exclusive.ensures.written)

pub returns-in_ok-events-in-Executions-clause-written : goal.returns-in_ok-events-in-Executions-clause-written
returns-in_ok-events-in-Executions-clause-written g c = rw c.in-Executions.is (
    subst (λ (s : Selected). IsExplained (ExplainsExecutions s)
    (g.T.Target.contents c.args.target.now) (g.T.Target.contents c.explain_executions.new.target)
    c.explain_executions.result)
    c.in_ok-events-in-Executions.ensures c.explain_executions.ensures.written)

pub returns-in-Lifecycle-clause-written : goal.returns-in-Lifecycle-clause-written
returns-in-Lifecycle-clause-written g c = rw c.in-Lifecycle.is c.explain_lifecycle.ensures.written

pub returns-in_ok-events-in-Locks-clause-written : goal.returns-in_ok-events-in-Locks-clause-written
returns-in_ok-events-in-Locks-clause-written g c = rw c.in-Locks.is (
    subst (λ (s : Selected). IsExplained (ExplainsLocks s)
    (g.T.Target.contents c.args.target.now) (g.T.Target.contents c.explain_locks.new.target)
    c.explain_locks.result)
    c.in_ok-events-in-Locks.ensures c.explain_locks.ensures.written)
