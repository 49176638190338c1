use Rattle.std.proofs.Common.{ℕ, ◌<◌}
use Rattle.tk_query.specs.steps.Holders.{AreLastEnds, MeetsNone}
use Rattle.tk_query.proofs.exclusion.Holders.answer.Given as goal

abbrev pub invariant-loop-second : goal.invariant-loop-second
invariant-loop-second l = AreLastEnds l.self l.second l.last × ((j : ℕ) → j < l.second → MeetsNone l.self j)
