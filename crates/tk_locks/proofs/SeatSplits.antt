-- A split and a join of seats leave what all seats hold, in another order at most.
use Rattle.std.proofs.Common.{◌≡◌, ◌≢◌, ℕ, zero, suc, ◌-◌, ◌<◌, Option, None, List, [], ◌∷◌, ◌++◌, length, set, flat_map, replicate, refl, sym, ap, ap₂, ◌∙◌, subst, append_assoc, arith}
use Rattle.std.proofs.lemmas.List.{set-set, length-replicate}
use Rattle.std.proofs.lemmas.List.Concat.{flat_map-append}
use Rattle.std.proofs.lemmas.List.Sorted.{IsPermutation-refl, IsPermutation-sym, IsPermutation-trans, IsPermutation-append_left, IsPermutation-append_right, IsPermutation-append_comm}
use Rattle.std.specs.List.Sorted.{IsPermutation}
use mathlib.Core.Option.{some, some-injective, some-ne-none}
use lib.ListN.{get_elem?}
use Rattle.atomic_table.proofs.Lists.{set_else}
use Rattle.tk_locks.proofs.ListSums.{set_there}
use Rattle.tk_locks.specs.NeedView.{NeedView}
use Rattle.tk_locks.specs.declared.rules.SeatNote.{SeatNote}
use Rattle.tk_locks.specs.LockWord.{seat_note, holdings}
use Rattle.tk_locks.specs.Steps.{SplitIsNone, JoinIsNone}

module _ {A : Type 0} where
  -- two writes at different places may change their order
  set_turned : (l : List A) (i j : ℕ) (a b : A) → i ≢ j → set (set l i a) j b ≡ set (set l j b) i a
  set_turned [] i j a b ne = refl
  set_turned (x ∷ xs) zero zero a b ne = absurd (ne refl)
  set_turned (x ∷ xs) zero (suc j) a b ne = refl
  set_turned (x ∷ xs) (suc i) zero a b ne = refl
  set_turned (x ∷ xs) (suc i) (suc j) a b ne = ap (λ (l : List A). x ∷ l) (set_turned xs i j a b (λ e. ne (ap suc e)))

  swapped : (a b c : List A) → IsPermutation (a ++ (b ++ c)) (b ++ (a ++ c))
  swapped a b c = subst (λ (l : List A). IsPermutation l (b ++ (a ++ c))) (append_assoc a b c)
      (subst (λ (l : List A). IsPermutation ((a ++ b) ++ c) l) (append_assoc b a c) (IsPermutation-append_left c (a ++ b) (b ++ a) (IsPermutation-append_comm a b)))

module _ {A B : Type 0} where
  -- the piece of one element comes to the front
  to_front : (g : A → List B) (l : List A) (i : ℕ) (v e : A) → get_elem? l i ≡ some v → g e ≡ [] → IsPermutation (flat_map g l) (g v ++ flat_map g (set l i e))
  to_front g [] i v e at empty = absurd (some-ne-none v (sym at))
  to_front g (x ∷ xs) zero v e at empty =
      subst (λ (l : List B). IsPermutation (g x ++ flat_map g xs) l) (ap₂ (λ (p q : List B). p ++ (q ++ flat_map g xs)) (ap g (some-injective x v at)) (sym empty)) (IsPermutation-refl (g x ++ flat_map g xs))
  to_front g (x ∷ xs) (suc i) v e at empty = let rest : List B = flat_map g (set xs i e) in
      IsPermutation-trans (g x ++ flat_map g xs) (g x ++ (g v ++ rest)) (g v ++ (g x ++ rest))
      (IsPermutation-append_right (g x) (flat_map g xs) (g v ++ rest) (to_front g xs i v e at empty)) (swapped (g x) (g v) rest)

abbrev held_of : SeatNote → List (Option NeedView)
held_of v = v.held

abbrev nothing_left : SeatNote
nothing_left = seat_note 0 [] []

one_more : (n : ℕ) → 0 < n → (let l : List (Option NeedView) = None ∷ replicate (n - 1) None in l) ≡ replicate n None
one_more zero h = absurd (omega arith)
one_more (suc n) h = let e : suc n - 1 ≡ n = omega arith in ap (λ (k : ℕ). None ∷ replicate k None) e

pub split : SplitIsNone (λ v. seat_note v.seats (replicate (length v.held - 1) None) []) (λ v. seat_note v.seats (None ∷ []) [])
split views seat places v at empty some_place =
    let left = seat_note v.seats (replicate (length v.held - 1) None) [] in
    let right = seat_note v.seats (None ∷ []) [] in
    let others : List (Option NeedView) = holdings (set views seat nothing_left) in
    let fewer : left.held ≡ replicate (places - 1) None = ap (λ (l : List (Option NeedView)). replicate (length l - 1) None) empty ∙ ap (λ (n : ℕ). replicate (n - 1) None) (length-replicate places None) in
    let whole : None ∷ left.held ≡ v.held = ap (λ (l : List (Option NeedView)). None ∷ l) fewer ∙ one_more places some_place ∙ sym empty in
    let before : IsPermutation (holdings views) (v.held ++ others) = to_front held_of views seat v nothing_left at refl in
    let parted : IsPermutation (holdings (set views seat left)) (left.held ++ others) = subst (λ (l : List SeatNote). IsPermutation (holdings (set views seat left)) (left.held ++ holdings l)) (set-set views seat left nothing_left)
    (to_front held_of (set views seat left) seat left nothing_left (set_there views seat v left at) refl) in
    let after : IsPermutation (holdings (set views seat left) ++ None ∷ []) (None ∷ left.held ++ others) = IsPermutation-trans (holdings (set views seat left) ++ None ∷ []) ((left.held ++ others) ++ None ∷ []) (None ∷ left.held ++ others)
    (IsPermutation-append_left (None ∷ []) (holdings (set views seat left)) (left.held ++ others) parted) (IsPermutation-append_comm (left.held ++ others) (None ∷ [])) in
    let same : IsPermutation (holdings (set views seat left) ++ None ∷ []) (v.held ++ others) = subst (λ (l : List (Option NeedView)). IsPermutation (holdings (set views seat left) ++ None ∷ []) (l ++ others)) whole after in
    let joined = IsPermutation-trans (holdings views) (v.held ++ others) (holdings (set views seat left) ++ None ∷ []) before (IsPermutation-sym (holdings (set views seat left) ++ None ∷ []) (v.held ++ others) same) in
    (fewer, refl, subst (λ (l : List (Option NeedView)). IsPermutation (holdings views) l) (sym (flat_map-append held_of (set views seat left) (right ∷ []))) joined)

pub join : JoinIsNone (λ v w. seat_note v.seats (w.held ++ v.held) []) nothing_left
join views seat other v w ne at there =
    let both = seat_note v.seats (w.held ++ v.held) [] in
    let views_before : List SeatNote = set views seat nothing_left in
    let views_after : List SeatNote = set (set views seat both) other nothing_left in
    let others : List (Option NeedView) = holdings (set views_before other nothing_left) in
    let turned_ne : other ≢ seat = λ e. ne (sym e) in
    let first : IsPermutation (holdings views) (v.held ++ holdings views_before) = to_front held_of views seat v nothing_left at refl in
    let second : IsPermutation (holdings views_before) (w.held ++ others) = to_front held_of views_before other w nothing_left (set_else views seat other nothing_left turned_ne ∙ there) refl in
    let before : IsPermutation (holdings views) (w.held ++ (v.held ++ others)) =
    IsPermutation-trans (holdings views) (v.held ++ holdings views_before) (w.held ++ (v.held ++ others)) first
    (IsPermutation-trans (v.held ++ holdings views_before) (v.held ++ (w.held ++ others)) (w.held ++ (v.held ++ others)) (IsPermutation-append_right v.held (holdings views_before) (w.held ++ others) second) (swapped v.held w.held others)) in
    let at_both : get_elem? views_after seat ≡ some both = set_else (set views seat both) other seat nothing_left ne ∙ set_there views seat v both at in
    let same : set views_after seat nothing_left ≡ set views_before other nothing_left = set_turned (set views seat both) other seat nothing_left nothing_left turned_ne ∙ ap (λ (l : List SeatNote). set l other nothing_left) (set-set views seat both nothing_left) in
    let pulled : IsPermutation (holdings views_after) ((w.held ++ v.held) ++ others) = subst (λ (l : List SeatNote). IsPermutation (holdings views_after) ((w.held ++ v.held) ++ holdings l)) same (to_front held_of views_after seat both nothing_left at_both refl) in
    let after : IsPermutation (holdings views_after) (w.held ++ (v.held ++ others)) = subst (λ (l : List (Option NeedView)). IsPermutation (holdings views_after) l) (append_assoc w.held v.held others) pulled in
    (refl, refl, IsPermutation-trans (holdings views) (w.held ++ (v.held ++ others)) (holdings views_after) before (IsPermutation-sym (holdings views_after) (w.held ++ (v.held ++ others)) after))
