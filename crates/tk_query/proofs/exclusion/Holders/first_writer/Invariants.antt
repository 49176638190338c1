use Rattle.std.proofs.Common.{◌≡◌, ℕ, ◌<◌, false}
use Rattle.tk_query.specs.steps.Holders.{is_written}
use Rattle.tk_query.proofs.exclusion.Holders.first_writer.Given as goal

abbrev pub invariant-loop-start : goal.invariant-loop-start
invariant-loop-start l = (p : ℕ) → p < l.start → is_written l.self p ≡ false
