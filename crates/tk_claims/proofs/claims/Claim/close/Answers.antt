use Rattle.std.proofs.Common.{◌≡◌, ◌∷◌, ◌++◌, [], arith, ap, sym, subst, ◌∙◌, append_assoc, min, ℕ, List, Some, All, map, true, length}
use Rattle.std.proofs.lemmas.Grind.{common_steps}
use Rattle.std.proofs.lemmas.List.Elements.{All-pop}
use Rattle.tk_claims.specs.Claims.{ClaimView, ClaimSeatView, Claims}
use Rattle.tk_claims.proofs.ClaimSteps.{Pooled, joins, pools, pools_more, closes}
use Rattle.tk_claims.proofs.claims.Claim.close.Goals as goal

pub join_seat-requires : goal.join_seat-requires
join_seat-requires c = let held = c.loop-next.invariant in
    let popped = All-pop (λ (s : ClaimSeatView). s.claim ≡ c.args.self) _ _ (Some c.in-Some-pop.next) c.in-Some-pop.ensures.items held.of_this in
    let name = ap (λ (z : ClaimSeatView). z.claim) c.next.view_is ∙ popped.1 ∙ sym c.self.view_is in
    (held.table, ap (λ (z : ClaimView). z.table) name, c.next.invariant.no_slot, omega arith, joins _ _ _ _ _ held.pooled.2.some_part)

pub loop-next-init : goal.loop-next-init
loop-next-init c = let popped = All-pop (λ (s : ClaimSeatView). s.claim ≡ c.args.self) _ _ (Some c.in-Some.last) c.in-Some.ensures.items c.requires.of_this in
    let name = ap (λ (z : ClaimSeatView). z.claim) c.last.view_is ∙ popped.1 in
    record {
      table = ap (λ (z : ClaimView). z.table) (name ∙ sym c.self.view_is);
      of_this = popped.0;
      pooled = (c.in-Some.last ∷ [], sym c.in-Some.ensures.items, subst (λ z. Pooled c.args.self (z ∷ []) c.last.inside.seat.me) c.last.view_is (pools c.args.self c.last.inside name c.last.invariant));
    }

pub loop-next-preserved : goal.loop-next-preserved
loop-next-preserved c = let held = c.loop-next.invariant in
    let popped = All-pop (λ (s : ClaimSeatView). s.claim ≡ c.args.self) _ _ (Some c.in-Some-pop.next) c.in-Some-pop.ensures.items held.of_this in
    record {
      table = c.join_seat.ensures.0 ∙ held.table;
      of_this = popped.0;
      pooled = (
        c.in-Some-pop.next ∷ held.pooled.0,
        sym (append_assoc c.pop-in-loop-next.new.self.items (c.in-Some-pop.next ∷ []) held.pooled.0) ∙ ap (λ (l : List ClaimSeatView). l ++ held.pooled.0) (sym c.in-Some-pop.ensures.items) ∙ held.pooled.1,
        subst (λ z. Pooled c.args.self (z ∷ held.pooled.0) c.join_seat.new.seat.me) c.next.view_is (pools_more c.args.self c.next.inside held.pooled.0 c.loop-next.seat.me c.join_seat.new.seat.me c.next.invariant held.pooled.2 c.join_seat.ensures.2),
      );
    }

pub returns : goal.returns
returns c = let held = c.loop-next.invariant in let all = held.pooled.0 in
    let empty : c.loop-next.seats.items ≡ [] = grind (arith, common_steps, c.in_default-pop.ensures.items, c.in_default-pop.not-Some) in
    let same : all ≡ c.args.seats.items = ap (λ (l : List ClaimSeatView). l ++ all) (sym empty) ∙ held.pooled.1 in
    let key = c.self.inside.table.shared.key in
    let limit : key.limit ≡ c.args.self.limit = ap (λ (z : ClaimView). z.limit) c.self.view_is in
    let count : key.seats ≡ length all = ap (λ (z : ClaimView). z.seats) c.self.view_is ∙ sym c.requires.all ∙ ap (λ (l : List ClaimSeatView). length l) (sym same) in
    let is : c.min.result ≡ min c.word-next.result c.args.self.limit = c.min.ensures ∙ ap (λ (k : ℕ). min c.word-next.result k) (c.from.ensures ∙ c.self.invariant.limit_same ∙ limit) in
    let stated = closes c.args.self key all c.loop-next.seat.id c.loop-next.seat.me _ _ c.word-next.result limit count held.pooled.2 c.close_with-closed.ensures.values.2 c.word-next.ensures in
    let both : Claims (map (λ (s : ClaimSeatView). s.numbers) c.args.seats.items) c.min.result × All (λ (s : ClaimSeatView). s.spent ≡ true → c.min.result ≡ c.args.self.limit) c.args.seats.items =
    subst (λ (m : ℕ). Claims (map (λ (s : ClaimSeatView). s.numbers) c.args.seats.items) m × All (λ (s : ClaimSeatView). s.spent ≡ true → m ≡ c.args.self.limit) c.args.seats.items) (sym is)
    (subst (λ (l : List ClaimSeatView). Claims (map (λ (s : ClaimSeatView). s.numbers) l) (min c.word-next.result c.args.self.limit) × All (λ (s : ClaimSeatView). s.spent ≡ true → min c.word-next.result c.args.self.limit ≡ c.args.self.limit) l) same stated) in
    record { claims = both.0; spent = both.1 }
