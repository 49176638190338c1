-- Of which events a condition holds, by flags.
use Rattle.std.specs.Prelude.{◌≡◌, ℕ, Bool, false, List, get_or}
use Rattle.tk_record.specs.Selections.{Selected}
use Rattle.tk_query_conditions.specs.declared.conditions.Condition.{Condition}
use Rattle.tk_query.specs.Asked.{fits}

-- There is a flag for each entry of the record: whether it is an event asked of which the condition
-- holds.
pub record TellFits (asked : Selected) (c : Condition) (flags : List Bool) : Type 0 where
  pub tell : (p : ℕ) → fits asked c p ≡ get_or flags p false
