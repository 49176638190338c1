use Rattle.std.proofs.Common.{◌≡◌, ℕ, ◌<◌, true}
use Rattle.tk_query.specs.steps.Holders.{is_held}
use Rattle.tk_query.proofs.exclusion.Holders.has_other.Given as goal

abbrev pub invariant-loop-other : goal.invariant-loop-other
invariant-loop-other l = (p : ℕ) → p < l.other → is_held l.self p ≡ true → p ≡ l.writer
