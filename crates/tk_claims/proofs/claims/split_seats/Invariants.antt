use Rattle.std.proofs.Common.{◌≡◌, ◌+◌, ◌-◌, length, [], All}
use Rattle.tk_claims.specs.Claims.{fresh}
use Rattle.tk_claims.specs.ClaimViews.{claim_view}
use Rattle.tk_claims.specs.ClaimWord.{drawn}
use Rattle.tk_claims.proofs.claims.split_seats.Given as goal

abbrev pub invariant-loop : goal.invariant-loop
invariant-loop l = record {
  table : l.first.table_id ≡ l.table.shared.table_id;
  me : l.first.me ≡ (drawn l.table.shared.key (l.count + 1 - l.counter) 0 [], []);
  dealt : length l.all.items + 1 ≡ l.counter;
  fresh_seats : All (λ s. s ≡ fresh (claim_view l.table.shared.table_id l.table.shared.key)) l.all.items;
}
