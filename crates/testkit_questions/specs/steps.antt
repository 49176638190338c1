-- What private clauses and proofs alone name.
use Rattle.std.specs.Prelude.{ℕ, Bool, true, List, ◌≡◌, ◌≢◌, Err}
use Rattle.std.specs.List.{flat_map}
use Rattle.tk_record.specs.Lines.{event_list}
use Rattle.testkit_questions.specs.declared.replies.Reply.{Reply}
use Rattle.testkit_questions.specs.Answers.{execution_line}
use Rattle.tk_query_conditions.specs.Answer.{IsReadAs}
use Rattle.testkit_questions.specs.declared.conditions.ConditionsFault.{ConditionsFault}
use Rattle.testkit_questions.specs.declared.replies.Reply.TheVariants as replies
use Rattle.tk_query_conditions.specs.declared.faults.CondFault.TheVariants as condition_faults
use Rattle.testkit_questions.specs.declared.conditions.ConditionsFault.TheVariants as faults

-- an answer may be yes or no; executions, events and a report are always yes
abbrev pub reply_is_yes : Reply → Bool
reply_is_yes (replies.Whole answer) = answer.is_yes
reply_is_yes (replies.Executions xs) = true
reply_is_yes (replies.Events events) = true
reply_is_yes (replies.Report report) = true

abbrev pub reply_text : Reply → List ℕ
reply_text (replies.Whole answer) = answer.text.items
reply_text (replies.Executions xs) = flat_map execution_line xs
reply_text (replies.Events events) = event_list events
reply_text (replies.Report report) = report

-- why the text of this number is no condition
abbrev pub IsTextFault : ℕ → List ℕ → ConditionsFault → Type 0
IsTextFault number text (faults.Condition at fault) =
    (at ≡ number) × IsReadAs text (Err fault) × (fault ≢ condition_faults.Memory)
IsTextFault number text faults.Memory = Unit {0}
