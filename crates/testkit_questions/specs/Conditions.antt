-- Why texts are not all conditions.
use Rattle.std.specs.Prelude.{ℕ, List}
use Rattle.testkit_questions.specs.Questions.{IsBadCondition}
use Rattle.testkit_questions.specs.declared.conditions.ConditionsFault.{ConditionsFault}
use Rattle.testkit_questions.specs.declared.conditions.ConditionsFault.TheVariants as faults

-- the texts before the one of this number are conditions, and it is none for this reason
abbrev pub IsConditionsFault : List (List ℕ) → ConditionsFault → Type 0
IsConditionsFault texts (faults.Condition number fault) = IsBadCondition texts number fault
IsConditionsFault texts faults.Memory = Unit {0}
