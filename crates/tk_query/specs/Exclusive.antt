-- Whether executions that conflict kept away from each other. Executions are given by the positions
-- of their starts.
use Rattle.std.specs.Prelude.{◌≡◌, ◌≢◌, ℕ, ◌<◌, ◌≤◌, Bool, true, ◌&&◌, ◌||◌}
use Rattle.tk_record.specs.Selections.{Selected}
use Rattle.tk_query_conditions.specs.declared.conditions.Condition.{Condition}
use Rattle.tk_query.specs.declared.answers.Exclusive.{Exclusive}
use Rattle.tk_query.specs.declared.answers.Exclusive.TheVariants.{Yes, No, NoPair}
use Rattle.tk_query.specs.Asked.{fits}
use Rattle.tk_query.specs.Ends.{Overlap, is_start}

module _ (asked : Selected) (writers readers : Condition) where
  -- a writer's execution: the first condition holds of its start
  abbrev pub is_writer : ℕ → Bool
  is_writer start = fits asked writers start

  -- a writer's or a reader's: the first or the second condition holds of its start
  abbrev pub is_holder : ℕ → Bool
  is_holder start = fits asked writers start || fits asked readers start

  -- of these executions one is a writer's, and the other a writer's or a reader's
  abbrev pub conflict : ℕ → ℕ → Bool
  conflict p q = (is_writer p && is_holder q) || (is_writer q && is_holder p)

  -- two different executions conflict
  pub record ArePair (p q : ℕ) : Type 0 where
    pub first : is_start asked p ≡ true
    pub second : is_start asked q ≡ true
    pub different : p ≢ q
    pub conflicts : conflict p q ≡ true

  -- some two executions conflict
  pub record SomePair : Type 0 where
    pub p : ℕ
    pub q : ℕ
    pub pair : ArePair p q

  -- two executions conflict and overlap
  pub record Collide (p q : ℕ) : Type 0 where
    pub pair : ArePair p q
    pub overlap : Overlap asked p q

  -- Of all that conflict and overlap, q is the least start that comes second, and p the least one
  -- that comes before it.
  pub record IsFirstCollision (p q : ℕ) : Type 0 where
    pub order : p < q
    pub collide : Collide p q
    pub least_second : (i j : ℕ) → i < j → Collide i j → q ≤ j
    pub least_first : (i : ℕ) → i < q → Collide i q → p ≤ i

  -- Some executions conflict, and no two that conflict overlap; or the first two that do; or no two
  -- executions conflict.
  abbrev pub IsExclusive : Exclusive → Type 0
  IsExclusive Yes = SomePair × ((p q : ℕ) → ¬ Collide p q)
  IsExclusive (No p q) = IsFirstCollision p q
  IsExclusive NoPair = (p q : ℕ) → ¬ ArePair p q
