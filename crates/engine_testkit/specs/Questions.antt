-- What clauses cite of questions, answers and explanations.
pub use Rattle.testkit_questions.specs.Conditions.{IsConditionsFault}
pub use Rattle.testkit_questions.specs.Questions.{AreConditions}
pub use Rattle.tk_expectations.specs.Expectations.{ComparesReport, IsJudged, OfConditions}
pub use Rattle.tk_expectations.specs.Expectations.{OfHolders, OfWords, RefusesConditions}
pub use Rattle.tk_expectations.specs.Expectations.{RefusesWords, asked_of, texts_of}
pub use Rattle.tk_expectations.specs.FailedRuns.{IsOfRun}
pub use Rattle.tk_expectations.specs.Failures.{IsFault}
pub use Rattle.tk_explanations.specs.Collisions.{ExplainsExclusive}
pub use Rattle.tk_explanations.specs.Explained.{IsExplained}
pub use Rattle.tk_explanations.specs.Lifecycles.{ExplainsLifecycle}
pub use Rattle.tk_explanations.specs.LockCollisions.{ExplainsLocks}
pub use Rattle.tk_explanations.specs.Matches.{ExplainsExactly, ExplainsInOrder, ExplainsLoosely}
pub use Rattle.tk_explanations.specs.Statistics.{ExplainsStatistics}
pub use Rattle.tk_query.specs.AnswerTexts.{ending_name, exact_yes, exclusive_yes, in_order_yes}
pub use Rattle.tk_query.specs.AnswerTexts.{loose_yes}
pub use Rattle.tk_query.specs.Exclusive.{IsExclusive}
pub use Rattle.tk_query.specs.ExecutionSteps.{step_at}
pub use Rattle.tk_query.specs.Executions.{AreExecutions, has_ending, has_started}
pub use Rattle.tk_query.specs.Matches.{IsExact, IsInOrder, IsLoose}
pub use Rattle.tk_query_locks.specs.AnswerTexts.{lock_answer_yes}
pub use Rattle.tk_query_locks.specs.LockAnswers.{IsLockAnswer}
pub use Rattle.tk_query_conditions.specs.Answer.{IsReadAs}
pub use Rattle.tk_query_conditions.specs.Cond.{Container, Id, OfKind, Plain, Test, With, cond_text}
pub use Rattle.tk_query_conditions.specs.CondOf.{both, cond_of}
