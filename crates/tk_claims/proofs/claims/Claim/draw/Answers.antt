use Rattle.std.proofs.Common.{◌≡◌, ℕ, sym, ap, ◌∙◌, subst, cond, false, arith}
use Rattle.tk_claims.specs.Claims.{ClaimView, ClaimSeatView}
use Rattle.tk_claims.specs.ClaimViews.{IsClaimant}
use Rattle.tk_claims.proofs.ClaimSteps.{draws, risen, stopped}
use Rattle.tk_claims.proofs.claims.Claim.draw.Goals as goal

pub fetch_add-found-requires : goal.fetch_add-found-requires
fetch_add-found-requires c = let same = ap (λ (z : ClaimSeatView). z.claim) c.seat.view_is ∙ c.requires ∙ sym c.self.view_is in
    (ap (λ (z : ClaimView). z.table) same, omega arith, draws _ _ _ c.seat.inside.seat.me c.seat.invariant.one_part (c.seat.invariant.spent_same ∙ ap (λ b. cond {A = ℕ} b 1 0) c.if-seat.false))

pub invariant_of-seat : goal.invariant_of-seat
invariant_of-seat c = let same = ap (λ (z : ClaimSeatView). z.claim) c.seat.view_is ∙ c.requires ∙ sym c.self.view_is in
    let limit : c.seat.inside.seat.me.0.claim_limits.limit ≡ c.self.inside.limit = ap (λ (z : ClaimView). z.limit) same ∙ sym c.self.invariant.limit_same in
    let was = subst (λ b. IsClaimant record { seat = c.seat.inside.seat; spent = b }) c.if-seat.false c.seat.invariant in
    subst (λ b. IsClaimant record { seat = c.fetch_add-found.new.seat; spent = b }) (sym c.if-seat.false) (risen c.seat.inside.seat c.fetch_add-found.new.seat c.fetch_add-found.result was c.fetch_add-found.ensures.2 (omega arith)).0

pub invariant_of-seat-else-found-from : goal.invariant_of-seat-else-found-from
invariant_of-seat-else-found-from c = let same = ap (λ (z : ClaimSeatView). z.claim) c.seat.view_is ∙ c.requires ∙ sym c.self.view_is in
    let limit : c.seat.inside.seat.me.0.claim_limits.limit ≡ c.self.inside.limit = ap (λ (z : ClaimView). z.limit) same ∙ sym c.self.invariant.limit_same in
    let unspent : c.seat.inside.spent ≡ false = cc in
    let was = subst (λ b. IsClaimant record { seat = c.seat.inside.seat; spent = b }) unspent c.seat.invariant in
    (stopped c.seat.inside.seat c.fetch_add-found.new.seat c.fetch_add-found.result was c.fetch_add-found.ensures.2 (omega arith)).0
