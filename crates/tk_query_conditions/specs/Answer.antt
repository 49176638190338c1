-- What reading a condition answers.
use Rattle.std.specs.Prelude.{◌≡◌, ℕ, ◌<◌, ◌≤◌, List, length, take, Result, Ok, Err}
use Rattle.tk_query_conditions.specs.declared.conditions.Condition.{Condition}
use Rattle.tk_query_conditions.specs.Brackets.{open_brackets}
use Rattle.tk_query_conditions.specs.Cond.{cond_text, IsCondText}
use Rattle.tk_query_conditions.specs.CondOf.{cond_of}
use Rattle.tk_ids.specs.Prefix.{Begins, IsLongestPrefix}
use Rattle.tk_query_conditions.specs.declared.faults.TheConstants.{MAX_DEPTH}
use Rattle.tk_query_conditions.specs.declared.faults.CondFault.{CondFault}
use Rattle.tk_query_conditions.specs.declared.faults.CondFault.TheVariants.{BadAtom, Deep, Memory}

-- in no prefix of the first n bytes are more than `MAX_DEPTH` brackets open
abbrev pub IsShallowTo : List ℕ → ℕ → Type 0
IsShallowTo text n = (m : ℕ) → m ≤ n → open_brackets (take m text) ≤ MAX_DEPTH

-- a condition's text begins with the first n bytes, which leave more than `MAX_DEPTH` brackets open
pub record IsDeepAt (text : List ℕ) (n : ℕ) : Type 0 where
  pub within : n ≤ length text
  pub begins : Begins IsCondText (take n text)
  pub deep : MAX_DEPTH < open_brackets (take n text)

-- the text is no condition's, and `at` is the length of its longest prefix with which one begins
pub record IsBadAt (text : List ℕ) (at : ℕ) : Type 0 where
  pub no_condition : ¬ IsCondText text
  pub prefix : IsLongestPrefix IsCondText text at
  pub shallow : IsShallowTo text at

-- what reading the text answers
abbrev pub IsReadAs : List ℕ → Result Condition CondFault → Type 0
IsReadAs text (Ok c) = (text ≡ cond_text (cond_of c)) × IsShallowTo text (length text)
IsReadAs text (Err (BadAtom at)) = IsBadAt text at
IsReadAs text (Err Deep) = (n : ℕ) × IsDeepAt text n
IsReadAs text (Err Memory) = Unit {0}
