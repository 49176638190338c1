use Rattle.std.proofs.Common.{◌≡◌, ◌++◌, vec_len, List, All}
use Rattle.tk_claims.specs.Claims.{ClaimSeatView}
use Rattle.tk_claims.proofs.ClaimSteps.{Pooled}
use Rattle.tk_claims.proofs.claims.Claim.close.Given as goal

abbrev pub invariant-loop-next : goal.invariant-loop-next
invariant-loop-next l = record {
  table : l.seat.table_id ≡ l.table.shared.table_id;
  of_this : All (λ s. s.claim ≡ l.fn.self) l.seats.items;
  pooled : (all : List ClaimSeatView) × (l.seats.items ++ all ≡ l.fn.seats.items) × Pooled l.fn.self all l.seat.me;
}

abbrev pub decreases-loop-next : goal.decreases-loop-next
decreases-loop-next l = vec_len l.seats
