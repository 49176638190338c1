use Rattle.std.proofs.Common.{ℕ, List, ◌≤◌, length}
use Rattle.tk_ids.specs.steps.IdSegments.{HasNoSlashFrom}
use Rattle.tk_ids.proofs.ids.last_slash.Given as goal

pub record Seeks (bytes : List ℕ) (at : ℕ) : Type 0 where
  pub within : at ≤ length bytes
  pub none : HasNoSlashFrom bytes at

abbrev pub invariant-slashes : goal.invariant-slashes
invariant-slashes l = Seeks l.bytes l.at

abbrev pub decreases-slashes : goal.decreases-slashes
decreases-slashes l = l.at
