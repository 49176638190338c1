-- Ids that are apart by descent.
use Rattle.std.proofs.Common.{◌≡◌, Bool, true, false, not, List, [], ◌∷◌, ◌⊎◌, inl, inr, ⊎_elim, refl, sym, ◌∙◌}
use Rattle.std.specs.Prelude.{◌↔◌, IsTrue}
use Rattle.std.proofs.lemmas.Bool.{false≢true}
use Rattle.std.proofs.lemmas.List.{append-nil}
use Rattle.tk_ids.specs.IdText.{SegmentView, IsBelow}
use Rattle.tk_query_locks.specs.Conflicts.{AreApart, BeginsWith}

-- an id that begins with another is that one, or stands below it
begins_cases : (above id : List SegmentView) → BeginsWith above id → (id ≡ above) ⊎ IsBelow above id
begins_cases above id ([], e) = inl (e ∙ append-nil above)
begins_cases above id (s ∷ more, e) = inr (s, more, e)

pub itself_begins : (a b : List SegmentView) → a ≡ b → BeginsWith a b
itself_begins a b e = ([], sym e ∙ sym (append-nil a))

pub below_begins : (a b : List SegmentView) → IsBelow a b → BeginsWith a b
below_begins a b (s, more, e) = (s ∷ more, e)

-- what is not the same, and neither below the other, is apart
pub apart_from : (a b : List SegmentView) → ¬ (a ≡ b) → ¬ IsBelow a b → ¬ IsBelow b a → AreApart a b
apart_from a b other below above = record {
  not_below = λ begins. ⊎_elim {C = ⊥}
      (λ (same : b ≡ a). other (sym same))
      (λ (is : IsBelow a b). below is)
      (begins_cases a b begins);
  not_above = λ begins. ⊎_elim {C = ⊥}
      (λ (same : a ≡ b). other same)
      (λ (is : IsBelow b a). above is)
      (begins_cases b a begins);
}

-- nothing is apart from itself
pub not_apart_itself : (a b : List SegmentView) → a ≡ b → AreApart a b → ⊥
not_apart_itself a b same apart = apart.not_below (itself_begins a b same)

pub apart_swap : (a b : List SegmentView) → AreApart a b → AreApart b a
apart_swap a b apart = record { not_below = apart.not_above; not_above = apart.not_below }

-- what is told of a fact
pub told_not : {P : Type 0} (told : Bool) → (IsTrue told ↔ P) → not told ≡ true → ¬ P
told_not true tells e p = false≢true e
told_not false tells e p = false≢true (tells.1 p)

pub not_told : {P : Type 0} (told : Bool) → (IsTrue told ↔ P) → ¬ P → not told ≡ true
not_told true tells none = absurd (none (tells.0 refl))
not_told false tells none = refl
