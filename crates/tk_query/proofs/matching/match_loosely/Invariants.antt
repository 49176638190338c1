use Rattle.std.proofs.Common.{ℕ, ◌<◌}
use Rattle.tk_query.specs.Matches.{HoldsSomewhere}
use Rattle.tk_query.proofs.matching.match_loosely.Given as goal

abbrev pub invariant-loop-k : goal.invariant-loop-k
invariant-loop-k l = (j : ℕ) → j < l.k → HoldsSomewhere l.events l.conditions j
