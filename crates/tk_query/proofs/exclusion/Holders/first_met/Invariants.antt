use Rattle.std.proofs.Common.{◌≡◌, ℕ, ◌<◌, false}
use Rattle.tk_query.specs.steps.Holders.{meet}
use Rattle.tk_query.proofs.exclusion.Holders.first_met.Given as goal

abbrev pub invariant-loop-first : goal.invariant-loop-first
invariant-loop-first l = (i : ℕ) → i < l.first → meet l.self i l.second ≡ false
