use Rattle.std.proofs.Common.{◌≡◌, ◌∷◌, ◌++◌, [], List, Option, Some, length, map, sum_by, arith, ap, sym, subst, ◌∙◌, append_assoc}
use Rattle.std.proofs.lemmas.Grind.{common_steps}
use Rattle.std.proofs.lemmas.List.Elements.{All-pop}
use Rattle.std.proofs.lemmas.List.{length-map}
use Rattle.tk_locks.specs.NeedView.{NeedView}
use Rattle.tk_locks.specs.Holdings.{AreCompatible, held_word}
use Rattle.tk_locks.specs.Books.{BookView, BookSeatView}
use Rattle.tk_locks.proofs.BookSteps.{joins, into_word_steps}
use Rattle.tk_locks.proofs.GatheredSeats.{gathers, gathers_more}
use Rattle.tk_locks.proofs.books.Book.into_word.Goals as goal

pub join_seat-requires : goal.join_seat-requires
join_seat-requires c = let held = c.loop-next.invariant in
    let popped = All-pop (λ (s : BookSeatView). s.book ≡ c.args.self) _ _ (Some c.in-Some-pop.next) c.in-Some-pop.ensures.items held.of_this in
    let name = ap (λ (z : BookSeatView). z.book) c.next.view_is ∙ popped.1 ∙ sym c.self.view_is in
    (held.table, ap (λ (z : BookView). z.table) name, c.next.invariant.no_slot, omega arith, joins _ _ _ _ _)

pub loop-next-init : goal.loop-next-init
loop-next-init c = let popped = All-pop (λ (s : BookSeatView). s.book ≡ c.args.self) _ _ (Some c.in-Some.last) c.in-Some.ensures.items c.requires.of_this in
    let name = ap (λ (z : BookSeatView). z.book) c.last.view_is ∙ popped.1 in
    record {
      table = ap (λ (z : BookView). z.table) (name ∙ sym c.self.view_is);
      of_this = popped.0;
      pooled = (c.in-Some.last ∷ [], sym c.in-Some.ensures.items, gathers c.last.inside c.in-Some.last c.last.view_is c.last.invariant);
    }

pub loop-next-preserved : goal.loop-next-preserved
loop-next-preserved c = let held = c.loop-next.invariant in
    let popped = All-pop (λ (s : BookSeatView). s.book ≡ c.args.self) _ _ (Some c.in-Some-pop.next) c.in-Some-pop.ensures.items held.of_this in
    record {
      table = c.join_seat.ensures.0 ∙ held.table;
      of_this = popped.0;
      pooled = (
        c.in-Some-pop.next ∷ held.pooled.0,
        sym (append_assoc c.pop-in-loop-next.new.self.items (c.in-Some-pop.next ∷ []) held.pooled.0) ∙ ap (λ (l : List BookSeatView). l ++ held.pooled.0) (sym c.in-Some-pop.ensures.items) ∙ held.pooled.1,
        gathers_more c.next.inside c.in-Some-pop.next held.pooled.0 c.loop-next.seat.me c.join_seat.new.seat.me c.next.view_is c.next.invariant held.pooled.2 c.join_seat.ensures.2,
      );
    }

pub returns : goal.returns
returns c = let held = c.loop-next.invariant in let all = held.pooled.0 in
    let empty : c.loop-next.seats.items ≡ [] = grind (arith, common_steps, c.in_default-pop.ensures.items, c.in_default-pop.not-Some) in
    let same : all ≡ c.args.seats.items = ap (λ (l : List BookSeatView). l ++ all) (sym empty) ∙ held.pooled.1 in
    let count : length all ≡ c.self.inside.table.shared.key = ap (λ (l : List BookSeatView). length l) same ∙ c.requires.all ∙ sym (ap (λ (z : BookView). z.seats) c.self.view_is) in
    let needs : c.loop-next.seat.me.0.held ≡ map (λ (s : BookSeatView). s.holds) c.args.seats.items = held.pooled.2.held ∙ ap (λ (l : List BookSeatView). map (λ (s : BookSeatView). s.holds) l) same in
    let whole : length c.loop-next.seat.me.0.held ≡ c.self.inside.table.shared.key = ap (λ (l : List (Option NeedView)). length l) held.pooled.2.held ∙ length-map all (λ (s : BookSeatView). s.holds) ∙ count in
    let last = into_word_steps _ c.loop-next.seat.id c.loop-next.seat.me.0 _ _ c.word-word.result c.close_with-closed.ensures.values.2 whole c.word-word.ensures in
    record { word = last.0 ∙ ap (sum_by held_word) needs; compatible = subst AreCompatible needs last.1 }
