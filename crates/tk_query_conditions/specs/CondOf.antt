-- The condition that a value of the program is.
use Rattle.std.specs.Prelude.{ℕ, List, [], ◌∷◌, Some, None}
use Rattle.tk_query_conditions.specs.declared.conditions.Condition as real
use Rattle.tk_query_conditions.specs.declared.conditions.Condition.{Condition, All', Any', Not'}
use Rattle.tk_query_conditions.specs.declared.conditions.Condition.{Row_of-Condition}
use Rattle.tk_query_conditions.specs.declared.conditions.Condition.{end_of-Condition}
use Rattle.tk_query_conditions.specs.declared.conditions.Condition.{more_of-Condition}
use Rattle.tk_query_conditions.specs.Cond.{Test, Container, Engine, Started, Succeeded, Failed}
use Rattle.tk_query_conditions.specs.Cond.{Aborted, Id, Name, Skipped, FailedWith, AbortedWith}
use Rattle.tk_query_conditions.specs.Cond.{Message, File, Pairs, NoPairs, MorePairs, Cond, Plain}
use Rattle.tk_query_conditions.specs.Cond.{With, OfKind, HasSegment, HasPairs, All, Any, Not, Conds}
use Rattle.tk_query_conditions.specs.Cond.{Nothing, More}

-- pairs, after others
abbrev pub pairs_from : Pairs → List (List ℕ × List ℕ) → Pairs
pairs_from pairs [] = pairs
pairs_from pairs (p ∷ rest) = pairs_from (MorePairs pairs p.0 p.1) rest

abbrev mutual
  pub cond_of : Condition → Cond
  cond_of real.Test = Plain Test
  cond_of real.Container = Plain Container
  cond_of real.Engine = Plain Engine
  cond_of (real.Id text) = With Id text
  cond_of (real.Segment tag value) = HasSegment tag value
  cond_of (real.Name text) = With Name text
  cond_of (real.Kind kind) = OfKind kind
  cond_of (real.Skipped text) = With Skipped text
  cond_of real.Started = Plain Started
  cond_of real.Succeeded = Plain Succeeded
  cond_of (real.Failed None) = Plain Failed
  cond_of (real.Failed (Some text)) = With FailedWith text
  cond_of (real.Aborted None) = Plain Aborted
  cond_of (real.Aborted (Some text)) = With AbortedWith text
  cond_of (real.Message text) = With Message text
  cond_of (real.File text) = With File text
  cond_of (real.Entry pairs) = HasPairs (pairs_from NoPairs pairs)
  cond_of (All' shape row) = All (row_from Nothing row)
  cond_of (Any' shape row) = Any (row_from Nothing row)
  cond_of (Not' position member) = Not (cond_of member)

  pub row_from : {n : _} → Conds → Row_of-Condition n → Conds
  row_from cs end_of-Condition = cs
  row_from cs (more_of-Condition member rest) = row_from (More cs (cond_of member)) rest

-- the two of them
abbrev pub both : Cond → Cond → Cond
both a b = All (More (More Nothing a) b)
