-- What follows from the definitions of the explanations.
use Rattle.std.specs.Prelude.{◌≡◌, ℕ, Bool, List}
use Rattle.tk_record.specs.Recorded.{Recorded}
use Rattle.tk_record.specs.Selections.{Selected}
use Rattle.tk_record.specs.declared.statistics.Expected.{Expected}
use Rattle.tk_query_conditions.specs.declared.conditions.Condition.{Condition}
use Rattle.tk_explanations.specs.Collisions.{ExplainsExclusive}
use Rattle.tk_explanations.specs.Lifecycles.{ExplainsLifecycle}
use Rattle.tk_explanations.specs.Lists.{ExplainsExecutions, ExplainsList}
use Rattle.tk_explanations.specs.LockCollisions.{ExplainsLocks}
use Rattle.tk_explanations.specs.Matches.{ExplainsExactly, ExplainsInOrder, ExplainsLoosely}
use Rattle.tk_explanations.specs.Statistics.{ExplainsStatistics}

-- there is at most one answer, a yes or not, and at most one text that explains it
abbrev pub IsUnique : (Bool → List ℕ → Type 0) → Type 0
IsUnique Explains = (a b : Bool) (s t : List ℕ) → Explains a s → Explains b t → (a ≡ b) × (s ≡ t)

-- the same question about the same events has one explanation
pub record ExplanationsAreUnique : Type 0 where
  pub exactly : (asked : Selected) (cs : List Condition) → IsUnique (ExplainsExactly asked cs)
  pub loosely : (asked : Selected) (cs : List Condition) → IsUnique (ExplainsLoosely asked cs)
  pub in_order : (asked : Selected) (cs : List Condition) → IsUnique (ExplainsInOrder asked cs)
  pub listed : (asked : Selected) → IsUnique (ExplainsList asked)
  pub executions : (asked : Selected) → IsUnique (ExplainsExecutions asked)
  pub exclusive : (asked : Selected) (w r : Condition) → IsUnique (ExplainsExclusive asked w r)
  pub lifecycle : (r : Recorded) → IsUnique (ExplainsLifecycle r)
  pub locks : (asked : Selected) → IsUnique (ExplainsLocks asked)
  pub statistics : (asked : Selected) (e : Expected) → IsUnique (ExplainsStatistics asked e)
