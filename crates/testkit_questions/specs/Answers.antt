-- The answers to questions, as text.
use Rattle.std.specs.Prelude.{◌≡◌, ℕ, Bool, true, false, ◌&&◌, List, [], ◌∷◌, ◌++◌, count_by}
use Rattle.std.specs.Prelude.{length, ◌==◌}
use Rattle.std.specs.List.{flat_map, list_all}
use Rattle.std.specs.Fmt.{decimal}
use Rattle.tk_record.specs.declared.selections.Selection.{Selection}
use Rattle.tk_record.specs.declared.statistics.Mismatch.{Mismatch}
use Rattle.tk_record.specs.Recorded.{Recorded}
use Rattle.tk_record.specs.Selections.{Selected, all_of, events_of, filtered_by, selects}
use Rattle.tk_record.specs.Statistics.{statistics_of, mismatches}
use Rattle.tk_record.specs.StatisticTexts.{statistics_text}
use Rattle.tk_record.specs.Lines.{event_list}
use Rattle.tk_explanations.specs.Statistics.{mismatch_text}
use Rattle.tk_query_conditions.specs.declared.conditions.Condition.{Condition}
use Rattle.tk_query.specs.declared.answers.Exact.{Exact}
use Rattle.tk_query.specs.declared.answers.Exclusive.{Exclusive}
use Rattle.tk_query.specs.declared.answers.Loose.{Loose}
use Rattle.tk_query.specs.declared.answers.InOrder.{InOrder}
use Rattle.tk_query.specs.declared.execution.Execution.{Execution}
use Rattle.tk_query.specs.AnswerTexts.{ending_name, exact_text, exact_yes, exclusive_text}
use Rattle.tk_query.specs.AnswerTexts.{exclusive_yes, in_order_text, in_order_yes, loose_text}
use Rattle.tk_query.specs.AnswerTexts.{loose_yes}
use Rattle.tk_query.specs.Exclusive.{IsExclusive}
use Rattle.tk_query.specs.ExecutionSteps.{step_at}
use Rattle.tk_query.specs.Executions.{AreExecutions}
use Rattle.tk_query.specs.Holds.{holds}
use Rattle.tk_query.specs.Matches.{IsExact, IsLoose, IsInOrder}
use Rattle.testkit_questions.specs.Characters.{blank, line_feed}
use Rattle.testkit_questions.specs.declared.questions.Mode.{Mode}
use Rattle.testkit_questions.specs.declared.questions.Mode.TheVariants.{Exactly, Loosely}
use Rattle.testkit_questions.specs.declared.questions.Mode.TheVariants.{InOrder as InTheirOrder}
use Rattle.tk_query_lifecycle.specs.declared.lifecycle_rules.Lifecycle.{Lifecycle}
use Rattle.tk_query_lifecycle.specs.declared.lifecycle_rules.Lifecycle.TheVariants as lifecycles
use Rattle.tk_query_lifecycle.specs.Lifecycle.{IsLifecycle}
use Rattle.tk_query_lifecycle.specs.LifecycleTexts.{lifecycle_text}
use Rattle.tk_query_locks.specs.AnswerTexts.{lock_answer_text, lock_answer_yes}
use Rattle.tk_query_locks.specs.LockAnswers.{IsLockAnswer}
use Rattle.tk_query_locks.specs.declared.answers.LockAnswer.{LockAnswer}
use Rattle.tk_report_text.specs.Reports.{report_of_record}
use Rattle.testkit_questions.specs.declared.questions.Question.{Question}
use Rattle.testkit_questions.specs.declared.questions.Question.TheVariants.{Stats, Count, Match}
use Rattle.testkit_questions.specs.declared.questions.Question.TheVariants.{List as Listed}
use Rattle.testkit_questions.specs.declared.questions.Question.TheVariants.{Exclusive as OfHolders}
use Rattle.testkit_questions.specs.declared.questions.Question.TheVariants.{Executions}
use Rattle.testkit_questions.specs.declared.questions.Question.TheVariants.{
  Lifecycle as OfLifecycle,
}
use Rattle.testkit_questions.specs.declared.questions.Question.TheVariants.{Locks as OfLocks}
use Rattle.testkit_questions.specs.declared.questions.Question.TheVariants.{Report}

-- a statistic that differs from what was expected of it
abbrev pub mismatch_line : Mismatch → List ℕ
mismatch_line m = mismatch_text m ++ line_feed ∷ []

-- an answer's words as a line
abbrev pub exact_line : Exact → List ℕ
exact_line answer = exact_text answer ++ line_feed ∷ []

abbrev pub loose_line : Loose → List ℕ
loose_line answer = loose_text answer ++ line_feed ∷ []

abbrev pub in_order_line : InOrder → List ℕ
in_order_line answer = in_order_text answer ++ line_feed ∷ []

abbrev pub exclusive_line : Exclusive → List ℕ
exclusive_line answer = exclusive_text answer ++ line_feed ∷ []

-- the key, the ending and the two stamps
abbrev pub execution_line : Execution → List ℕ
execution_line x =
    decimal x.key ++ blank ∷ ending_name x.ending ++ blank ∷ decimal x.start
    ++ blank ∷ decimal x.stop ++ line_feed ∷ []

-- the events of the record that the selection picks
abbrev pub picked : Selection → Recorded → Selected
picked selection r = filtered_by (selects selection r) (all_of r)

-- What a mode's matcher answers of these events: whether it says yes, and its line.
abbrev pub IsMatchAnswer : Mode → Selected → List Condition → Bool → List ℕ → Type 0
IsMatchAnswer Exactly asked conditions is_yes output =
    (answer : Exact) × IsExact asked conditions answer
    × (is_yes ≡ exact_yes answer) × (output ≡ exact_line answer)
IsMatchAnswer Loosely asked conditions is_yes output =
    (answer : Loose) × IsLoose asked conditions answer
    × (is_yes ≡ loose_yes answer) × (output ≡ loose_line answer)
IsMatchAnswer InTheirOrder asked conditions is_yes output =
    (answer : InOrder) × IsInOrder asked conditions answer
    × (is_yes ≡ in_order_yes answer) × (output ≡ in_order_line answer)

-- the events of the record that the selection picks and of which each condition holds
abbrev pub events_where : Selection → List Condition → Recorded → Selected
events_where selection conditions r =
    filtered_by (λ e. selects selection r e && list_all (λ c. holds r c e) conditions) (all_of r)

-- the record keeps the lifecycle, or where it first doesn't
abbrev pub lifecycle_line : Lifecycle → List ℕ
lifecycle_line lifecycle = lifecycle_text lifecycle ++ line_feed ∷ []

abbrev pub lock_answer_line : LockAnswer → List ℕ
lock_answer_line answer = lock_answer_text answer ++ line_feed ∷ []

abbrev pub lifecycle_yes : Lifecycle → Bool
lifecycle_yes lifecycles.Kept = true
lifecycle_yes _ = false

-- whether all executions of writers and readers in the record kept away from each other
abbrev pub IsExclusiveAnswer : Condition → Condition → Recorded → Bool → List ℕ → Type 0
IsExclusiveAnswer writers readers r is_yes output =
    (answer : Exclusive) × IsExclusive (all_of r) writers readers answer
    × (is_yes ≡ exclusive_yes answer) × (output ≡ exclusive_line answer)

-- the executions that the events show, a line each
abbrev pub IsExecutionsAnswer : Selected → Bool → List ℕ → Type 0
IsExecutionsAnswer asked is_yes output =
    (xs : List Execution) × AreExecutions (step_at asked) xs
    × (is_yes ≡ true) × (output ≡ flat_map execution_line xs)

-- whether executions that conflict over a lock kept away from each other
abbrev pub IsLocksAnswer : Recorded → Bool → List ℕ → Type 0
IsLocksAnswer r is_yes output =
    (answer : LockAnswer) × IsLockAnswer (all_of r) answer
    × (is_yes ≡ lock_answer_yes answer) × (output ≡ lock_answer_line answer)

-- whether the record keeps the lifecycle
abbrev pub IsLifecycleAnswer : Recorded → Bool → List ℕ → Type 0
IsLifecycleAnswer r is_yes output =
    (answer : Lifecycle) × IsLifecycle r answer
    × (is_yes ≡ lifecycle_yes answer) × (output ≡ lifecycle_line answer)

-- What a question about a record answers: whether it is a yes, and the output.
abbrev pub IsAnswerTo : Question → Recorded → Bool → List ℕ → Type 0
IsAnswerTo (Stats selection expected) r is_yes output =
    let statistics = statistics_of (events_of (picked selection r)) in
    let differing = mismatches expected statistics in
    (is_yes ≡ (length differing == 0))
    × (output ≡ statistics_text statistics ++ flat_map mismatch_line differing)
IsAnswerTo (Count selection) r is_yes output =
    (is_yes ≡ true)
    × (output ≡ decimal (count_by (selects selection r) r.entries) ++ line_feed ∷ [])
IsAnswerTo (Match selection mode conditions) r is_yes output =
    IsMatchAnswer mode (picked selection r) conditions.items is_yes output
IsAnswerTo (Listed selection conditions) r is_yes output =
    (is_yes ≡ true) × (output ≡ event_list (events_where selection conditions.items r))
IsAnswerTo (OfHolders writers readers) r is_yes output =
    IsExclusiveAnswer writers readers r is_yes output
IsAnswerTo (Executions selection) r is_yes output =
    IsExecutionsAnswer (picked selection r) is_yes output
IsAnswerTo OfLifecycle r is_yes output = IsLifecycleAnswer r is_yes output
IsAnswerTo OfLocks r is_yes output = IsLocksAnswer r is_yes output
IsAnswerTo Report r is_yes output = (is_yes ≡ true) × (output ≡ report_of_record r)
