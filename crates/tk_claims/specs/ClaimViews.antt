-- What a clause sees of a claim and of its seats.
use Rattle.std.specs.Prelude.{◌≡◌, ◌^◌, ◌<◌, ◌≤◌, [], cond}
use Rattle.tk_base.specs.declared.limits.TheConstants.{MAX_WORKERS}
use Rattle.atomic_table.specs.Seated.{TableId}
use Rattle.tk_claims.specs.declared.claim_rules.ClaimLimits.{ClaimLimits}
use Rattle.tk_claims.specs.declared.claims.Claim.TheInside as claim
use Rattle.tk_claims.specs.declared.claims.ClaimSeat.TheInside as seat
use Rattle.tk_claims.specs.Claims.{ClaimView, ClaimSeatView, IsStrictlyIncreasing}

-- what a contract sees of a claim with this table and these limits
abbrev pub claim_view : TableId → ClaimLimits → ClaimView
claim_view table limits = record { table = table; limit = limits.limit; seats = limits.seats }

abbrev pub view_of : claim.Inside → ClaimView
view_of c = claim_view c.table.shared.table_id c.table.shared.key

-- a table of one word, with a limit of 32 bits and 1 to `MAX_WORKERS` seats
pub record IsClaim (c : claim.Inside) : Type 0 where
  pub limit_same : c.limit ≡ c.table.shared.key.limit
  pub one_word : c.table.shared.table_id.words ≡ 1
  pub no_slot : c.table.shared.table_id.slots ≡ 0
  pub small : c.table.shared.key.limit < 2 ^ 32
  pub some_seat : 0 < c.table.shared.key.seats
  pub few_seats : c.table.shared.key.seats ≤ MAX_WORKERS

abbrev pub seat_view_of : seat.Inside → ClaimSeatView
seat_view_of s = record {
  claim = claim_view s.seat.table_id s.seat.me.0.claim_limits;
  numbers = s.seat.me.0.numbers;
  spent = s.spent;
}

-- one seat of the table, whose view has the numbers that it drew and whether it is spent
pub record IsClaimant (s : seat.Inside) : Type 0 where
  pub one_part : s.seat.me.0.parts ≡ 1
  pub no_slot : s.seat.me.1 ≡ []
  pub increasing : IsStrictlyIncreasing s.seat.me.0.numbers
  pub spent_same : s.seat.me.0.spent ≡ cond s.spent 1 0
