-- What each step of a book does to what its seats hold.
use Rattle.std.proofs.Common.{◌≡◌, ◌≢◌, ℕ, ⊎_elim, Option, Some, None, List, [], ◌∷◌, ◌++◌, All, length, get_or, set, take, slice_get, get_or-set_same, get_or-set_other, length-set, refl, sym, ap, ◌∙◌, subst, arith}
use mathlib.Core.Logic.{dite}
use native.Mathlib.Decide.{ℕ_discrete, dec_lt}
use Rattle.std.proofs.lemmas.Option.{slice_get_within, get_or_from_slice_get}
use mathlib.Core.Option as maybe
use Rattle.atomic_table.specs.Table.{Me, carried_after, step}
use Rattle.tk_locks.specs.NeedView.{NeedView}
use Rattle.tk_locks.specs.Holdings.{IsCompatible, AreCompatible}
use Rattle.tk_locks.specs.declared.rules.SeatNote.{SeatNote}
use Rattle.tk_locks.specs.LockWord.{seat_note, holdings, HoldingsFitWord, HasTaken, WordWasLoaded, WasExchanged, WasReleased}
use Rattle.tk_locks.specs.Steps.{IsSumOfHoldings, ExchangeIsGrant, FailureIsNone, LoadIsNone, SubtractionIsRelease}
use Rattle.tk_locks.proofs.LaneConflicts.{agree_sym}
use Rattle.tk_locks.proofs.ListSums.{flat_set, flat_get, flat_still}

abbrev held_of : SeatNote → List (Option NeedView)
held_of v = v.held

-- where a need stands among others with no conflict, in a place that was empty, it conflicts with none of them
stands : (held : List (Option NeedView)) (seat : ℕ) (n : NeedView) → slice_get held seat ≡ Some None → AreCompatible (set held seat (Some n)) → All (IsCompatible (Some n)) held
stands held seat n empty compatible k d within = let there = slice_get_within held seat None empty in let len = length-set held seat (Some n) in
    let here : (i : ℕ) → i ≡ seat → get_or (set held seat (Some n)) i d ≡ Some n = λ i e. (ap (λ (x : ℕ). get_or (set held seat (Some n)) x d) e ∙ get_or-set_same held seat (Some n) d there) in
    let else : (i : ℕ) → i ≢ seat → get_or (set held seat (Some n)) i d ≡ get_or held i d = λ i ne. get_or-set_other held seat i (Some n) d ne in
    dite (ℕ_discrete k seat)
    (λ e. subst (IsCompatible (Some n)) (sym (ap (λ (x : ℕ). get_or held x d) e ∙ get_or_from_slice_get held seat None d empty)) tt)
    (λ ne. dite (dec_lt k seat)
    (λ lt. agree_sym (get_or held k d) (Some n) (subst (λ (p : Option NeedView × Option NeedView). IsCompatible p.0 p.1) (λ i. (else k ne i, here seat refl i)) (compatible k seat d lt (omega arith))))
    (λ ge. subst (λ (p : Option NeedView × Option NeedView). IsCompatible p.0 p.1) (λ i. (here seat refl i, else k ne i)) (compatible seat k d (omega arith) (omega arith))))

pub state : IsSumOfHoldings HoldingsFitWord
state seats s kept = (kept.word, kept.lanes, kept.compatible)

pub grant : ExchangeIsGrant HoldingsFitWord WasExchanged
grant t n old new begun empty kept stated = let me = t.before in let w = t.note in let s = t.state in let
    held : w.held ≡ Some n ∷ [] = ⊎_elim (λ (e : (old ≡ old) × HasTaken (step t.slots 0 old new (maybe.some n)) me (w, carried_after me.1 t.act)). ap (λ (m : Me NeedView SeatNote). m.0.held) e.1.after)
    (λ (e : (old ≢ old) × ((w, carried_after me.1 t.act) ≡ (seat_note me.0.seats me.0.held (me.0.seen ++ old ∷ []), me.1))). absurd (e.0 refl)) stated in let
    there = flat_get held_of s.views t.seat me.0 None begun.note empty in let
    same = flat_set held_of s.views t.seat me.0 w None (Some n) begun.note empty held in
    record {
      may_take = (there, stands (holdings s.views) (length (holdings (take t.seat s.views))) n there (subst AreCompatible same kept.compatible));
      after = same;
    }

pub failure : FailureIsNone HoldingsFitWord WasExchanged
failure t n old new x begun other stated = let me = t.before in flat_still held_of t.state.views t.seat me.0 t.note begun.note
    (⊎_elim (λ (e : (x ≡ old) × HasTaken (step t.slots 0 old new (maybe.some n)) me (t.note, carried_after me.1 t.act)). absurd (other e.0))
    (λ (e : (x ≢ old) × ((t.note, carried_after me.1 t.act) ≡ (seat_note me.0.seats me.0.held (me.0.seen ++ x ∷ []), me.1))). ap (λ (m : Me NeedView SeatNote). m.0.held) e.1) stated)

pub load : LoadIsNone HoldingsFitWord WordWasLoaded
load t x begun stated = flat_still held_of t.state.views t.seat t.before.0 t.note begun.note (ap (λ (m : Me NeedView SeatNote). m.0.held) stated.0)

pub release : SubtractionIsRelease HoldingsFitWord WasReleased
release t n k x begun one stated = record {
  held = flat_get held_of t.state.views t.seat t.before.0 (Some n) begun.note one;
  after = flat_set held_of t.state.views t.seat t.before.0 t.note (Some n) None begun.note one (ap (λ (m : Me NeedView SeatNote). m.0.held) stated);
}
