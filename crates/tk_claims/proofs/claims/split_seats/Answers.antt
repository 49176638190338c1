use Rattle.std.proofs.Common.{◌≡◌, ◌+◌, ◌-◌, ◌∙◌, ℕ, [], false, arith, ap}
use Rattle.std.proofs.lemmas.List.Elements.{All-push}
use Rattle.atomic_table.specs.Seated.{TableId}
use Rattle.atomic_table.specs.Table.{Me}
use Rattle.atomic_table.specs.declared.shared.Seat.{Seat}
use Rattle.tk_claims.specs.declared.claim_rules.ClaimLimits.{ClaimLimits}
use Rattle.tk_claims.specs.declared.claim_rules.Drawn.{Drawn}
use Rattle.tk_claims.specs.Claims.{ClaimSeatView, fresh}
use Rattle.tk_claims.specs.ClaimViews.{claim_view, seat_view_of}
use Rattle.tk_claims.specs.ClaimWord.{drawn}
use Rattle.tk_claims.proofs.ClaimSteps.{splits}
use Rattle.tk_claims.proofs.claims.split_seats.Goals as goal

-- a seat that drew nothing
undrawn : (seat : Seat (Unit {0}) Drawn) (table : TableId) (key : ClaimLimits) (parts : ℕ) → seat.table_id ≡ table → seat.me ≡ (drawn key parts 0 [], [])
    → seat_view_of record { seat = seat; spent = false } ≡ fresh (claim_view table key)
undrawn seat table key parts at me = rw (at, me)

pub split_seat-seat-requires : goal.split_seat-seat-requires
split_seat-seat-requires c = let me = c.loop.invariant.me in let test = c.loop-test.true in let parts = ap (λ (z : Me (Unit {0}) Drawn). z.0.parts) me in
    (c.loop.invariant.table, c.requires.table, splits _ _ c.loop.first.me.0 (ap (λ (z : Me (Unit {0}) Drawn). z.0.claim_limits) me) (omega arith) (ap (λ (z : Me (Unit {0}) Drawn). z.0.spent) me) (ap (λ (z : Me (Unit {0}) Drawn). z.0.numbers) me))

pub loop-preserved : goal.loop-preserved
loop-preserved c =
    let held = c.loop.invariant in
    let key = c.args.table.now.shared.key in
    let table = c.args.table.now.shared.table_id in
    let cut = rw held.me at c.split_seat-seat.ensures in
    let fewer : c.args.count + 1 - c.loop.counter - 1 ≡ c.args.count + 1 - (c.loop.counter + 1) = omega arith in
    record {
      table = cut.0 ∙ held.table;
      me = cut.2 ∙ ap (λ (parts : ℕ). (drawn key parts 0 [], [])) fewer;
      dealt = omega (arith, c.in_ok-push.ensures.len);
      fresh_seats = rw c.in_ok-push.ensures.items
          (All-push (λ (s : ClaimSeatView). s ≡ fresh (claim_view table key)) _ _ held.fresh_seats (undrawn c.split_seat-seat.result table key 1 (cut.3 ∙ held.table) cut.4));
    }

pub returns : goal.returns
returns c =
    let held = c.loop.invariant in
    let key = c.args.table.now.shared.key in
    let table = c.args.table.now.shared.table_id in (
      omega (arith, c.in_ok-push-2.ensures.len),
      rw c.in_ok-push-2.ensures.items
          (All-push (λ (s : ClaimSeatView). s ≡ fresh (claim_view table key)) _ _ held.fresh_seats (undrawn c.loop.first table key _ held.table held.me)),
    )
