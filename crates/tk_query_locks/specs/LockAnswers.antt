-- Whether executions that conflict over a lock kept away from each other. Executions are given by
-- the positions of their starts.
use Rattle.std.specs.Prelude.{◌≡◌, ℕ, ◌<◌, ◌≤◌, true, false, List}
use Rattle.tk_events.specs.Event.{is_before}
use Rattle.tk_record.specs.Selections.{Selected}
use Rattle.tk_query.specs.Ends.{Overlap, is_start}
use Rattle.tk_query_locks.specs.declared.answers.LockAnswer.{LockAnswer}
use Rattle.tk_query_locks.specs.declared.answers.LockAnswer.TheVariants.{Yes, No, NoPair}
use Rattle.tk_query_locks.specs.Conflicts.{ConflictAt}

module _ (asked : Selected) where
  -- two executions conflict over a lock: their descriptors do
  pub record Conflict (name : List ℕ) (p q : ℕ) : Type 0 where
    pub first : is_start asked p ≡ true
    pub second : is_start asked q ≡ true
    pub over : ConflictAt asked.recorded name p q

  -- some two executions conflict
  pub record SomeConflict : Type 0 where
    pub name : List ℕ
    pub p : ℕ
    pub q : ℕ
    pub conflict : Conflict name p q

  -- two executions conflict over a lock, and overlap
  pub record Collide (name : List ℕ) (p q : ℕ) : Type 0 where
    pub conflict : Conflict name p q
    pub overlap : Overlap asked p q

  -- Of all that conflict and overlap, q is the least start that comes second, and p the least one
  -- that comes before it; of the locks over which these two conflict, the name is the least.
  pub record IsFirstCollision (p q : ℕ) (name : List ℕ) : Type 0 where
    pub order : p < q
    pub collide : Collide name p q
    pub least_second : (other : List ℕ) (i j : ℕ) → i < j → Collide other i j → q ≤ j
    pub least_first : (other : List ℕ) (i : ℕ) → i < q → Collide other i q → p ≤ i
    pub least_name : (other : List ℕ) → Collide other p q → is_before other name ≡ false

  -- Some executions conflict, and no two that conflict overlap; or the first two that do; or no two
  -- executions conflict.
  abbrev pub IsLockAnswer : LockAnswer → Type 0
  IsLockAnswer Yes = SomeConflict × ((name : List ℕ) (p q : ℕ) → ¬ Collide name p q)
  IsLockAnswer (No p q name) = IsFirstCollision p q name
  IsLockAnswer NoPair = (name : List ℕ) (p q : ℕ) → ¬ Conflict name p q
