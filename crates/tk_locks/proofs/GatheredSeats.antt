-- The seats that one seat took in, as a book ends.
use Rattle.std.proofs.Common.{◌≡◌, Option, None, List, [], ◌∷◌, ◌++◌, map, sum_by, All, refl, ap, ◌∙◌, arith}
use Rattle.std.proofs.lemmas.List.Sums.{sum_by-cons}
use Rattle.std.proofs.lemmas.List.Elements.{All-head, All-tail}
use Rattle.atomic_table.specs.Table.{Me}
use Rattle.tk_locks.specs.NeedView.{NeedView}
use Rattle.tk_locks.specs.Holdings.{held_word}
use Rattle.tk_locks.specs.Books.{BookSeatView}
use Rattle.tk_locks.specs.BookViews.{seat_view_of, IsHolder}
use Rattle.tk_locks.specs.LockWord.{seat_note}
use Rattle.tk_locks.specs.declared.rules.SeatNote.{SeatNote}
use Rattle.tk_locks.specs.declared.books.BookSeat.TheInside as seat

-- what the seats hold, in their order
pub record Gathered (all : List BookSeatView) (me : Me NeedView SeatNote) : Type 0 where
  pub no_slot : me.1 ≡ []
  pub held : me.0.held ≡ map (λ s. s.holds) all

pub gathers : (s : seat.Inside) (h : BookSeatView) → seat_view_of s ≡ h → IsHolder s → Gathered (h ∷ []) s.seat.me
gathers s h same is = record { no_slot = is.no_slot; held = is.one ∙ ap (λ (z : BookSeatView). z.holds ∷ []) same }

pub gathers_more : (s : seat.Inside) (h : BookSeatView) (all : List BookSeatView) (old new : Me NeedView SeatNote) → seat_view_of s ≡ h → IsHolder s → Gathered all old → new ≡ (seat_note old.0.seats (s.seat.me.0.held ++ old.0.held) [], old.1) → Gathered (h ∷ all) new
gathers_more s h all old new same is gathered after = record {
  no_slot = ap (λ (m : Me NeedView SeatNote). m.1) after ∙ gathered.no_slot;
  held = ap (λ (m : Me NeedView SeatNote). m.0.held) after ∙ ap (λ (l : List (Option NeedView)). l ++ old.0.held) (is.one ∙ ap (λ (z : BookSeatView). z.holds ∷ []) same) ∙ ap (λ (l : List (Option NeedView)). h.holds ∷ l) gathered.held;
}

-- seats that hold nothing weigh nothing
pub empty_sum : (all : List BookSeatView) → All (λ s. s.holds ≡ None) all → sum_by held_word (map (λ s. s.holds) all) ≡ 0
empty_sum [] none = refl
empty_sum (s ∷ ss) none = let a = ap held_word (All-head (λ (s : BookSeatView). s.holds ≡ None) s ss none) in let b = empty_sum ss (All-tail (λ (s : BookSeatView). s.holds ≡ None) s ss none) in
    omega (arith, sum_by-cons held_word s.holds (map (λ (s : BookSeatView). s.holds) ss))
