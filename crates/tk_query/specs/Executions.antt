-- Executions: a start and a finish of one key with nothing of that key between, or a skip.
use Rattle.std.specs.Prelude.{◌≡◌, ◌≢◌, ℕ, Bool, not, ◌==◌, ◌<◌, ◌↔◌, ◌⊎◌, List, Option, Some}
use Rattle.std.specs.List.{Contains, AllPairs}
use Rattle.tk_query.specs.declared.execution.Ending.{Ending}
use Rattle.tk_query.specs.declared.execution.Ending.TheVariants.{Skipped, Aborted, Successful}
use Rattle.tk_query.specs.declared.execution.Ending.TheVariants.{Failed}
use Rattle.tk_query.specs.declared.execution.Execution.{Execution}
use Rattle.tk_query.specs.declared.execution_steps.Transition.TheVariants.{Starts, Skips, Ends}
use Rattle.tk_query.specs.declared.execution_steps.ExecutionStep.{ExecutionStep}

-- The key starts at the first position and finishes at the last one, and does nothing between.
pub record IsSpan (steps : ℕ → Option ExecutionStep) (x : Execution) : Type 0 where
  pub before : x.first < x.last
  pub starts : steps x.first ≡ Some (record { key = x.key; stamp = x.start; transition = Starts })
  pub ends :
      steps x.last ≡ Some (record { key = x.key; stamp = x.stop; transition = Ends x.ending })
  pub between :
      (m : ℕ) (a : ExecutionStep) →
      x.first < m → m < x.last → steps m ≡ Some a → a.key ≢ x.key

-- The key is skipped at the one position.
pub record IsSkip (steps : ℕ → Option ExecutionStep) (x : Execution) : Type 0 where
  pub one : x.first ≡ x.last
  pub stamps : x.start ≡ x.stop
  pub skips : steps x.last ≡ Some (record { key = x.key; stamp = x.stop; transition = Skips })
  pub ending : x.ending ≡ Skipped

-- a skip, or a start and its finish
abbrev pub IsExecution : (ℕ → Option ExecutionStep) → Execution → Type 0
IsExecution steps x = IsSkip steps x ⊎ IsSpan steps x

-- all executions of the steps, in the order of their ends
pub record AreExecutions (steps : ℕ → Option ExecutionStep) (xs : List Execution) : Type 0 where
  pub each : (x : Execution) → Contains xs x ↔ IsExecution steps x
  pub order : AllPairs (λ x y. x.last < y.last) xs

abbrev pub ending_code : Ending → ℕ
ending_code Skipped = 0
ending_code Aborted = 1
ending_code Successful = 2
ending_code Failed = 3

-- whether it ended so
abbrev pub has_ending : Ending → Execution → Bool
has_ending ending x = ending_code x.ending == ending_code ending

-- whether it started, and so finished
abbrev pub has_started : Execution → Bool
has_started x = not (has_ending Skipped x)
