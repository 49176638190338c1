-- What the lanes of a word that seats made show, and what a grant and its release make of holdings.
use Rattle.std.proofs.Common.{◌≡◌, ℕ, ◌+◌, ◌<◌, ◌≤◌, ◌⊎◌, inl, inr, ⊎_elim, Option, Some, None, List, [], ◌∷◌, ◌++◌, length, get_or, set, sum_by, is_some, refl, sym, ap, ◌∙◌, subst, arith}
use Rattle.std.proofs.lemmas.List.{set-set, set-get_or, get_or-set_same}
use Rattle.std.proofs.lemmas.List.Sums.{sum_by-cons, count_by-le-length}
use Rattle.std.proofs.lemmas.Option.{slice_get_within, get_or_from_slice_get}
use Rattle.tk_base.specs.declared.limits.TheConstants.{MAX_WORKERS}
use Rattle.tk_lanes.specs.Lanes.{lane_at}
use Rattle.tk_locks.specs.NeedView.{NeedView}
use Rattle.tk_locks.specs.Needs.{Access, nothing, reads, writes, access, weight, lane, word_of}
use Rattle.tk_locks.specs.Holdings.{AreCompatible, Grants, Releases, WereHeld, held_lane}
use Rattle.tk_locks.specs.Tries.{TookLast}
use Rattle.tk_locks.proofs.LaneConflicts.{AreCompatible-head, AreCompatible-tail, beside_reader, beside_writer, compatible_lanes, set_compatible, sum_lane}

-- a lane has a reader for each seat at most, or one writer
lane_small : (held : List (Option NeedView)) → AreCompatible held → (r : ℕ) → r < 16
    → (sum_by (λ h. held_lane h r) held ≤ length held) ⊎ (sum_by (λ h. held_lane h r) held ≡ 15)
lane_small [] fits r lt = inl (omega arith)
lane_small (None ∷ hs) fits r lt =
    ⊎_elim (λ a. inl (omega (arith, sum_by-cons (λ h. held_lane h r) None hs)))
    (λ a. inr (omega (arith, sum_by-cons (λ h. held_lane h r) None hs)))
    (lane_small hs (AreCompatible-tail None hs fits) r lt)
lane_small (Some n ∷ hs) fits r lt =
    go (lane_small hs (AreCompatible-tail (Some n) hs fits) r lt) (access n r) refl
  where
    go : (sum_by (λ h. held_lane h r) hs ≤ length hs) ⊎ (sum_by (λ h. held_lane h r) hs ≡ 15)
        → (a : Access) → access n r ≡ a
        → (sum_by (λ h. held_lane h r) (Some n ∷ hs) ≤ length (Some n ∷ hs))
        ⊎ (sum_by (λ h. held_lane h r) (Some n ∷ hs) ≡ 15)
    go rest nothing e = let w : lane n r ≡ 0 = ap weight e in
        ⊎_elim (λ a. inl (omega (arith, sum_by-cons (λ h. held_lane h r) (Some n) hs)))
        (λ a. inr (omega (arith, sum_by-cons (λ h. held_lane h r) (Some n) hs))) rest
    go rest reads e = let w : lane n r ≡ 1 = ap weight e in
        let b = beside_reader n r lt e hs (AreCompatible-head (Some n) hs fits) in
        let k = count_by-le-length is_some hs in
        inl (omega (arith, sum_by-cons (λ h. held_lane h r) (Some n) hs))
    go rest writes e = let w : lane n r ≡ 15 = ap weight e in
        let b = beside_writer n r lt e hs (AreCompatible-head (Some n) hs fits) in
        inr (omega (arith, sum_by-cons (λ h. held_lane h r) (Some n) hs))

lane_held : (seats word r : ℕ) (own : Option NeedView) → seats ≤ MAX_WORKERS → r < 16
    → (h : WereHeld seats own word)
    → lane_at word r ≡ sum_by (λ k. held_lane k r) (own ∷ h.others)
lane_held seats word r own few lt h = let held : List (Option NeedView) = own ∷ h.others in
    let count = h.count in let k = count_by-le-length is_some held in
    ap (λ (w : ℕ). lane_at w r) h.sum
    ∙ sum_lane held (compatible_lanes held h.compatible (omega arith)) r lt

pub readers : (seats word r : ℕ) (own : Option NeedView) → seats ≤ MAX_WORKERS → r < 16
    → WereHeld seats own word → (lane_at word r ≤ seats) ⊎ (lane_at word r ≡ 15)
readers seats word r own few lt h = let e = lane_held seats word r own few lt h in
    let count = h.count in
    ⊎_elim (λ a. inl (omega arith)) (λ a. inr (omega arith))
    (lane_small (own ∷ h.others) h.compatible r lt)

pub writer : (seats word r : ℕ) (own : NeedView) → seats ≤ MAX_WORKERS → r < 16
    → WereHeld seats (Some own) word → access own r ≡ writes → lane_at word r ≡ 15
writer seats word r own few lt h is = let e = lane_held seats word r (Some own) few lt h in
    let w : lane own r ≡ 15 = ap weight is in
    let b = beside_writer own r lt is h.others (AreCompatible-head (Some own) h.others h.compatible) in
    omega (arith, sum_by-cons (λ k. held_lane k r) (Some own) h.others)

same_last : (xs ys : List ℕ) (x y : ℕ) → xs ++ x ∷ [] ≡ ys ++ y ∷ [] → x ≡ y
same_last [] [] x y e = cc
same_last [] (b ∷ []) x y e = cc
same_last [] (b ∷ (c ∷ ys)) x y e = cc
same_last (a ∷ []) [] x y e = cc
same_last (a ∷ (b ∷ xs)) [] x y e = cc
same_last (a ∷ xs) (b ∷ ys) x y e =
    let rest : xs ++ x ∷ [] ≡ ys ++ y ∷ [] = cc in same_last xs ys x y rest

pub last : (seats seen : ℕ) (earlier : List ℕ) (own : NeedView)
    → TookLast seats (earlier ++ seen ∷ []) own → WereHeld seats (Some own) (seen + word_of own)
last seats seen earlier own took =
    subst (λ (n : ℕ). WereHeld seats (Some own) (n + word_of own))
    (sym (same_last earlier took.0 seen took.1 took.2)) took.3

pub compatible : (old new : List (Option NeedView)) (seat : ℕ) (need : NeedView)
    → AreCompatible old → Grants old seat need new → AreCompatible new
compatible old new seat need fits granted =
    subst AreCompatible (sym granted.after) (set_compatible old seat need fits granted.may_take.1)

pub undone : (old mid new : List (Option NeedView)) (seat : ℕ) (need back : NeedView)
    → Grants old seat need mid → Releases mid seat back new → (back ≡ need) × (new ≡ old)
undone old mid new seat need back granted released =
    let within = slice_get_within old seat None granted.may_take.0 in
    let there : get_or mid seat None ≡ Some need =
    ap (λ (l : List (Option NeedView)). get_or l seat None) granted.after
    ∙ get_or-set_same old seat (Some need) None within in
    let found : Some back ≡ Some need =
    sym (get_or_from_slice_get mid seat (Some back) None released.held) ∙ there in (
      cc,
      released.after ∙ ap (λ (l : List (Option NeedView)). set l seat None) granted.after
          ∙ set-set old seat (Some need) None
          ∙ ap (λ (h : Option NeedView). set old seat h) (sym (get_or_from_slice_get old seat None None granted.may_take.0))
          ∙ set-get_or old seat None,
    )
