-- Where executions end. An execution is a start with its end, and is given by its start's position.
use Rattle.std.specs.Prelude.{◌≡◌, ◌⊎◌, ℕ, ◌<◌, Bool, true, false, List, get_or, length}
use Rattle.tk_events.specs.declared.kinds.Kind.TheVariants.{Started}
use Rattle.tk_record.specs.Entries.{of_kind}
use Rattle.tk_record.specs.Selections.{Selected}
use Rattle.tk_query.specs.declared.execution.Execution.{Execution}
use Rattle.tk_query.specs.Asked.{event_at, is_there}
use Rattle.tk_query.specs.ExecutionSteps.{step_at}
use Rattle.tk_query.specs.Executions.{IsSpan}

-- one of the events asked stands at this position, and is a start
abbrev pub is_start : Selected → ℕ → Bool
is_start asked p = is_there (of_kind Started) (event_at asked.kept p)

-- the finish at n is paired with the start at p
pub record FinishesAt (asked : Selected) (p n : ℕ) : Type 0 where
  pub x : Execution
  pub span : IsSpan (step_at asked) x
  pub starts : x.first ≡ p
  pub finishes : x.last ≡ n

-- no finish is paired with the start at p
pub record NeverFinishes (asked : Selected) (p : ℕ) : Type 0 where
  pub starts : is_start asked p ≡ true
  pub unpaired : (n : ℕ) → ¬ FinishesAt asked p n

-- The execution that starts at p ends at n: at its finish or, where it never finishes, at the
-- number of entries of the record, so that it lasts to the end.
abbrev pub EndsAt : Selected → ℕ → ℕ → Type 0
EndsAt asked p n =
    FinishesAt asked p n ⊎ (NeverFinishes asked p × (n ≡ length asked.recorded.entries))

-- Each of the executions that start at p and at q starts at a lower position than the other ends.
pub record Overlap (asked : Selected) (p q : ℕ) : Type 0 where
  pub p_end : ℕ
  pub q_end : ℕ
  pub first_ends : EndsAt asked p p_end
  pub second_ends : EndsAt asked q q_end
  pub first_starts : p < q_end
  pub second_starts : q < p_end

-- Under the position of each start stands where that execution ends, and 0 under each other one.
pub record AreEnds (asked : Selected) (ends : List ℕ) : Type 0 where
  pub size : length ends ≡ length asked.recorded.entries
  pub each : (p : ℕ) → is_start asked p ≡ true → EndsAt asked p (get_or ends p 0)
  pub later : (p : ℕ) → is_start asked p ≡ true → p < get_or ends p 0
  pub others : (p : ℕ) → is_start asked p ≡ false → get_or ends p 0 ≡ 0
