use Rattle.std.proofs.Common.{◌≡◌, ◌≤◌, List, ℕ, take, not}
use Rattle.std.specs.Prelude.{count_by}
use Rattle.tk_query_nearest.specs.Parts.{has_key}
use Rattle.tk_query_nearest.proofs.parts.missing_keys.Given as goal

abbrev pub invariant-loop-pair : goal.invariant-loop-pair
invariant-loop-pair l = record {
  counted :
      l.missing
      ≡ count_by (λ (pair : List ℕ × List ℕ). not (has_key pair.0 l.payload))
      (take l.pair-index l.named);
  bound : l.missing ≤ l.pair-index;
}
