-- What follows from the definitions of the answers and of executions.
use Rattle.std.specs.Prelude.{◌≡◌, ℕ, List}
use Rattle.tk_record.specs.Selections.{Selected}
use Rattle.tk_query_conditions.specs.declared.conditions.Condition.{Condition}
use Rattle.tk_query.specs.declared.answers.Exact.{Exact}
use Rattle.tk_query.specs.declared.answers.Exclusive.{Exclusive}
use Rattle.tk_query.specs.declared.answers.Loose.{Loose}
use Rattle.tk_query.specs.declared.answers.InOrder.{InOrder}
use Rattle.tk_query.specs.declared.answers.InOrder.TheVariants.{Yes, No}
use Rattle.tk_query.specs.declared.execution.Execution.{Execution}
use Rattle.tk_query.specs.Ends.{EndsAt}
use Rattle.tk_query.specs.ExecutionSteps.{step_at}
use Rattle.tk_query.specs.Exclusive.{IsExclusive}
use Rattle.tk_query.specs.Executions.{AreExecutions}
use Rattle.tk_query.specs.Matches.{IsExact, IsLoose, IsInOrder}

-- the same events and conditions have one answer of the exact matcher
abbrev pub ExactIsUnique : Type 0
ExactIsUnique =
    (asked : Selected) (cs : List Condition) (a b : Exact) →
    IsExact asked cs a → IsExact asked cs b → a ≡ b

-- the same events and conditions have one answer of the loose matcher
abbrev pub LooseIsUnique : Type 0
LooseIsUnique =
    (asked : Selected) (cs : List Condition) (a b : Loose) →
    IsLoose asked cs a → IsLoose asked cs b → a ≡ b

-- the same answer: the same positions, or the same number
abbrev pub AreAlike : InOrder → InOrder → Type 0
AreAlike (Yes p) (Yes q) = p.items ≡ q.items
AreAlike (No j) (No k) = j ≡ k
AreAlike _ _ = ⊥

-- the same events and conditions have one answer of the matcher in order
abbrev pub InOrderIsUnique : Type 0
InOrderIsUnique =
    (asked : Selected) (cs : List Condition) (a b : InOrder) →
    IsInOrder asked cs a → IsInOrder asked cs b → AreAlike a b

-- the same events have one list of executions
abbrev pub ListIsUnique : Type 0
ListIsUnique =
    (asked : Selected) (xs ys : List Execution) →
    AreExecutions (step_at asked) xs → AreExecutions (step_at asked) ys → xs ≡ ys

-- an execution has one end
abbrev pub EndIsUnique : Type 0
EndIsUnique = (asked : Selected) (p m n : ℕ) → EndsAt asked p m → EndsAt asked p n → m ≡ n

-- the same events and conditions have one answer whether executions kept apart
abbrev pub ExclusiveIsUnique : Type 0
ExclusiveIsUnique =
    (asked : Selected) (writers readers : Condition) (a b : Exclusive) →
    IsExclusive asked writers readers a → IsExclusive asked writers readers b → a ≡ b
